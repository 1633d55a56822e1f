-- What an input is, and what a trim writes of it.
use Rattle.std.specs.Prelude.{◌≡◌, ◌≢◌, ◌≤◌, ℕ, List, length, Option, Result, Ok, Err, IfSome, nat_lt, if◌then◌else◌}
use Rattle.std.specs.Io.KnownBytes.{IsAtEnd}
use Rattle.cs_laws.specs.declared.faults.ScriptFault.{ScriptFault}
use Rattle.cs_status.specs.declared.refusal.Refusal.TheVariants as refusals
use Rattle.cs_status.specs.Refusals.{refusal_line, refusal_status}
use Rattle.cs_trim_run.specs.declared.input.Input.{Input}
use Rattle.cs_trim_run.specs.declared.input.Input.TheVariants.{Refused, Runs}
use Rattle.cs_trim_script.specs.declared.events.Event.{Event}
use Rattle.cs_trim_script.specs.Grammar.{script_of}
use Rattle.cs_trim_script.specs.Journal.{text, trim_journal}

-- an input that isn't too long: it is in the grammar, and then it has so many events
abbrev pub judged_script : Result (List Event) ScriptFault → Input
judged_script (Err f) = Refused (refusals.Faulty f)
judged_script (Ok es) = if nat_lt 10000 (length es) then Refused refusals.TooManyEvents else Runs es

-- what an input is
abbrev pub judged : List ℕ → Input
judged b = if nat_lt 1048576 (length b) then Refused refusals.TooLong else judged_script (script_of b)

-- the status of its trim, unless a fault ends that
abbrev pub status_of : Input → ℕ
status_of (Runs es) = 0
status_of (Refused r) = refusal_status r

-- what its trim writes, unless a fault ends that
abbrev pub output : Input → List ℕ
output (Runs es) = text (trim_journal es)
output (Refused r) = refusal_line r

-- a script that is run has at most 10,000 events
abbrev pub IsWithinLimit : Input → Type 0
IsWithinLimit (Runs es) = length es ≤ 10000
IsWithinLimit (Refused r) = Unit {0}

-- an input that isn't too long was judged
abbrev pub JudgesScript : List ℕ → Input → Type 0
JudgesScript b input = input ≡ judged_script (script_of b)

-- the input was judged, and was read to its end unless it is too long
pub record JudgesWhole (old new : Option (List ℕ)) (input : Input) : Type 0 where
  pub read : input ≢ Refused refusals.TooLong → IsAtEnd new
  pub is : IfSome old (λ b. input ≡ judged b)
