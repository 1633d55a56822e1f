-- How a run ends, by its status.
use Rattle.std.specs.Prelude.{◌≡◌, ℕ, ◌⊎◌, List, Option, IfSome}
use Rattle.std.specs.Io.KnownBytes.{Appends, IsAtEnd, Keeps}
use Rattle.cs_ids.specs.Devices.{Rose}
use Rattle.cs_io.specs.Whole.{AppendsFront}
use Rattle.cs_run.specs.declared.input.Input.{Input}
use Rattle.cs_run.specs.declared.run_fault.RunFault.TheVariants as faults
use Rattle.cs_run.specs.Held.{Held}
use Rattle.cs_run.specs.Inputs.{judged, status_of, output, AgreesWith, IsLawfulRun}
use Rattle.cs_run.specs.Stopped.{StopsInput}

-- the source, the sink, the store and the log at one moment: the bytes left and the bytes taken, where these are known, what store and
-- log hold, and how often each failed
pub record Devices : Type 0 where
  pub left : Option (List ℕ)
  pub source_faults : ℕ
  pub taken : Option (List ℕ)
  pub sink_faults : ℕ
  pub held : Held
  pub store_faults : ℕ
  pub log_faults : ℕ

-- what was written stopped, or the run did
abbrev pub IsStopStatus : ℕ → Type 0
IsStopStatus status = (status ≡ 5) ⊎ ((status ≡ 6) ⊎ ((status ≡ 7) ⊎ (status ≡ 8)))

-- a fault ended the run
abbrev pub IsFaultStatus : ℕ → Type 0
IsFaultStatus status = (status ≡ 4) ⊎ IsStopStatus status

-- what became of an input that was judged
pub record Ends (pages : ℕ) (input : Input) (status : ℕ) (taken_old taken_new : Option (List ℕ)) (sink_old sink_new : ℕ) (held : Held)
    (store_old store_new log_old log_new : ℕ) : Type 0 where
  -- the laws hold of its journal, if it has one
  pub lawful : IsLawfulRun pages input
  -- unless a fault came, the sink took all that is written of it, and store and log agree with its journal
  pub whole : status ≡ status_of input → Appends taken_old taken_new (output pages input) × AgreesWith pages input held
  pub sink : status ≡ 5 → Rose sink_old sink_new × StopsInput faults.Sink pages input taken_old taken_new held
  pub store : status ≡ 6 → Rose store_old store_new × StopsInput faults.Store pages input taken_old taken_new held
  pub log : status ≡ 7 → Rose log_old log_new × StopsInput faults.Log pages input taken_old taken_new held
  pub memory : status ≡ 8 → StopsInput faults.Memory pages input taken_old taken_new held
  pub cut : IsStopStatus status → AppendsFront taken_old taken_new (output pages input)
  pub known : (status ≡ status_of input) ⊎ IsStopStatus status

-- what the call of a run did
pub record Served (pages status : ℕ) (before after : Devices) : Type 0 where
  -- 0: the source was read to its end, all laws hold of the journal, and store and log agree with it
  pub done : status ≡ 0
      → IsAtEnd after.left
      × IfSome before.left (λ b. IsLawfulRun pages (judged b) × AgreesWith pages (judged b) after.held)
  -- 2: the source was read to its end
  pub refused : status ≡ 2 → IsAtEnd after.left
  -- 0, 2 and 3: this is what the input is, and the sink took the journal, the fault's line or the limit's line
  pub ended : (status ≡ 0) ⊎ ((status ≡ 2) ⊎ (status ≡ 3))
      → IfSome before.left (λ b. (status ≡ status_of (judged b)) × Appends before.taken after.taken (output pages (judged b)))
  -- 4: the source failed, and the sink took nothing
  pub source : status ≡ 4 → Rose before.source_faults after.source_faults × Keeps before.taken after.taken
  -- 5: the sink failed; it took all lines before that of the last event that was done, and no byte of a later event's, and store and
  -- log agree with the journal of the events that were done
  pub sink : status ≡ 5
      → Rose before.sink_faults after.sink_faults
      × IfSome before.left (λ b. StopsInput faults.Sink pages (judged b) before.taken after.taken after.held)
  -- 6: the store failed in an event; the sink took the lines before its own, the store lists the operations of the events before it
  -- and then a front of its own, and the log has the records of the events before it
  pub store : status ≡ 6
      → Rose before.store_faults after.store_faults
      × IfSome before.left (λ b. StopsInput faults.Store pages (judged b) before.taken after.taken after.held)
  -- 7: the log failed in an event; the sink took the lines before its own, the store lists the operations of the events before it, and
  -- the log has their records, or is as the event's entry would leave it
  pub log : status ≡ 7
      → Rose before.log_faults after.log_faults
      × IfSome before.left (λ b. StopsInput faults.Log pages (judged b) before.taken after.taken after.held)
  -- 8: as at 5, or in an event, where the store may have a front of its operations, and the log be as its entry would leave it; or the
  -- input wasn't read, and the sink, the store and the log have what they had
  pub memory : status ≡ 8 → IfSome before.left (λ b. StopsInput faults.Memory pages (judged b) before.taken after.taken after.held)
  -- 5 to 8: the sink took a front of what it would have taken
  pub cut : IsStopStatus status → IfSome before.left (λ b. AppendsFront before.taken after.taken (output pages (judged b)))
  -- unless a fault comes first, the status is that of the input
  pub decided : IfSome before.left (λ b. (status ≡ status_of (judged b)) ⊎ IsFaultStatus status)
  pub known : (status ≡ 0) ⊎ ((status ≡ 2) ⊎ ((status ≡ 3) ⊎ IsFaultStatus status))
