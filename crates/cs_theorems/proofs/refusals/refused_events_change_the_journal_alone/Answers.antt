use Rattle.cs_laws.specs.Journal.{entry}
use Rattle.cs_theorems.proofs.Refused.{as_before}
use Rattle.cs_theorems.proofs.refusals.refused_events_change_the_journal_alone.Goals as goal

pub returns : goal.returns
returns c = λ pages h e r. as_before h (entry pages h e) r
