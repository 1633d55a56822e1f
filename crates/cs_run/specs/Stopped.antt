-- What the sink, the store and the log have where a run stopped.
use Rattle.std.specs.Prelude.{◌≡◌, ℕ, zero, suc, ◌≤◌, ◌⊎◌, ◌==◌, List, [], ◌++◌, length, take, Option, Some, if◌then◌else◌, slice_get}
use Rattle.std.specs.Io.KnownBytes.{Appends}
use Rattle.cs_io.specs.Whole.{AppendsFront}
use Rattle.cs_laws.specs.declared.answers.Entry.{Entry}
use Rattle.cs_laws.specs.declared.events.Event.{Event}
use Rattle.cs_laws.specs.declared.faults.StepFault.{StepFault}
use Rattle.cs_laws.specs.declared.faults.StepFault.TheVariants as stepping
use Rattle.cs_laws.specs.Journal.{journal, text, header, lines}
use Rattle.cs_laws.specs.Operations.{applied}
use Rattle.cs_world.specs.Devices.{AppliesFront, HaltsAt, brings}
use Rattle.cs_run.specs.declared.input.Input.{Input}
use Rattle.cs_run.specs.declared.input.Input.TheVariants.{Refused, Runs}
use Rattle.cs_run.specs.declared.run_fault.RunFault.{RunFault}
use Rattle.cs_run.specs.declared.run_fault.RunFault.TheVariants as faults
use Rattle.cs_run.specs.Held.{Held, AgreesAt, IsBlank, LogsJournal}

-- what is written before the last one of so many events: all lines before its own
abbrev pub written_before : ℕ → List Event → ℕ → List ℕ
written_before pages es zero = []
written_before pages es (suc n) = header ++ lines (journal pages (take n es))

-- what is written at the most once so many events are done: the end line comes behind the last line alone
abbrev pub written_by : ℕ → List Event → ℕ → List ℕ
written_by pages es n = if n == length es then text (journal pages es) else header ++ lines (journal pages (take n es))

-- It stopped while something was written. So many events were done: the sink took all lines before that of the last one, and no
-- byte of a later event's, and store and log agree with their journal.
pub record StopsAfter (pages : ℕ) (es : List Event) (old new : Option (List ℕ)) (held : Held) : Type 0 where
  pub done : ℕ
  pub few : done ≤ length es
  pub lines : (part : List ℕ) × Appends old new (written_before pages es done ++ part)
  pub no_more : AppendsFront old new (written_by pages es done)
  pub agrees : AgreesAt (journal pages (take done es)) held

-- What store and log hold where a fault stops it in an event behind a history. The store has the history's operations and then a front
-- of the event's own, the log its records, or those with the event's entry. A device that fails leaves the other one as it was.
abbrev pub HoldsIn : StepFault → ℕ → List Entry → Event → Held → Type 0
HoldsIn stepping.Store pages h e held = AppliesFront (brings pages h e) (applied h) held.ops × LogsJournal h held
HoldsIn stepping.Log pages h e held = (held.ops ≡ applied h) × HaltsAt pages h e held.records held.durable
HoldsIn stepping.Memory pages h e held = AppliesFront (brings pages h e) (applied h) held.ops × HaltsAt pages h e held.records held.durable

-- It stopped in an event, before which so many were done: the sink took the lines of these.
pub record StopsIn (fault : StepFault) (pages : ℕ) (es : List Event) (old new : Option (List ℕ)) (held : Held) : Type 0 where
  pub done : ℕ
  pub event : Event
  pub next : slice_get es done ≡ Some event
  pub lines : Appends old new (header ++ lines (journal pages (take done es)))
  pub holds : HoldsIn fault pages (journal pages (take done es)) event held

-- where each fault stops it
abbrev pub Stops : RunFault → ℕ → List Event → Option (List ℕ) → Option (List ℕ) → Held → Type 0
Stops faults.Sink pages es old new held = StopsAfter pages es old new held
Stops faults.Store pages es old new held = StopsIn stepping.Store pages es old new held
Stops faults.Log pages es old new held = StopsIn stepping.Log pages es old new held
Stops faults.Memory pages es old new held = StopsAfter pages es old new held ⊎ StopsIn stepping.Memory pages es old new held

-- an input that isn't run brings nothing to store and log, and these can't stop it
abbrev pub StopsInput : RunFault → ℕ → Input → Option (List ℕ) → Option (List ℕ) → Held → Type 0
StopsInput fault pages (Runs es) old new held = Stops fault pages es old new held
StopsInput faults.Store pages (Refused r) old new held = ⊥
StopsInput faults.Log pages (Refused r) old new held = ⊥
StopsInput _ pages (Refused r) old new held = IsBlank held
