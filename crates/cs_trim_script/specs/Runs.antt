-- A store to which events are done, and how often it was written to.
use Rattle.std.specs.Prelude.{◌≡◌, List}
use Rattle.cs_trim.specs.Stands.{StandsFor}
use Rattle.cs_trim.specs.Steps.{Step}
use Rattle.cs_trim_script.specs.declared.answers.Answer.{Answer}
use Rattle.cs_trim_script.specs.declared.events.Event.{Event}
use Rattle.cs_trim_script.specs.declared.run.TrimRun.{TrimRun}
use Rattle.cs_trim_script.specs.Journal.{after, answer, written}

-- the store stands for the list of steps, and the writes are counted
pub record RunsFor (h : List Step) (r : TrimRun) : Type 0 where
  pub store : StandsFor h r.store
  pub writes : r.writes ≡ written h

-- for each list of steps that the run stood for: this is the answer, and the run stands for the list once the event is done
abbrev pub Answers : Event → TrimRun → TrimRun → Answer → Type 0
Answers e old new a = (h : List Step) → RunsFor h old → (a ≡ answer h e) × RunsFor (after h e) new
