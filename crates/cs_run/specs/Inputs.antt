-- What an input is, and what a run of it writes.
use Rattle.std.specs.Prelude.{◌≡◌, ◌≢◌, ◌≤◌, ℕ, List, length, Option, Result, Ok, Err, IfSome, Bool, true, false, nat_lt, count_by, if◌then◌else◌}
use Rattle.std.specs.Io.KnownBytes.{IsAtEnd}
use Rattle.cs_laws.specs.declared.events.Event.{Event}
use Rattle.cs_laws.specs.declared.events.Event.TheVariants as events
use Rattle.cs_laws.specs.declared.faults.ScriptFault.{ScriptFault}
use Rattle.cs_laws.specs.declared.requests.ReqOp.TheVariants as ops
use Rattle.cs_laws.specs.Grammar.{script_of}
use Rattle.cs_laws.specs.Journal.{journal, text}
use Rattle.cs_laws.specs.Laws.{Laws}
use Rattle.cs_run.specs.declared.input.Input.{Input}
use Rattle.cs_run.specs.declared.input.Input.TheVariants.{Refused, Runs}
use Rattle.cs_status.specs.declared.refusal.Refusal.TheVariants as refusals
use Rattle.cs_run.specs.Held.{Held, AgreesAt, IsBlank}
use Rattle.cs_status.specs.Refusals.{refusal_line, refusal_status}

-- a line or a request that makes a file, or may
abbrev pub is_file : Event → Bool
is_file (events.File f p) = true
is_file (events.Req caller (ops.Create d name)) = true
is_file _ = false

-- the same of a directory
abbrev pub is_dir : Event → Bool
is_dir (events.Dir d p) = true
is_dir (events.Req caller (ops.Mkdir d name)) = true
is_dir _ = false

-- an input that isn't too long: it is in the grammar, and then it has so many events, and makes so many files and directories,
-- whatever the answers
abbrev pub judged_script : Result (List Event) ScriptFault → Input
judged_script (Err f) = Refused (refusals.Faulty f)
judged_script (Ok es) =
    if nat_lt 10000 (length es) then Refused refusals.TooManyEvents
    else if nat_lt 64 (count_by is_file es) then Refused refusals.TooManyFiles
    else if nat_lt 64 (count_by is_dir es) then Refused refusals.TooManyDirs
    else Runs es

-- what an input is
abbrev pub judged : List ℕ → Input
judged b = if nat_lt 1048576 (length b) then Refused refusals.TooLong else judged_script (script_of b)

-- the status of its run, unless a fault ends that
abbrev pub status_of : Input → ℕ
status_of (Runs es) = 0
status_of (Refused r) = refusal_status r

-- what its run writes, unless a fault ends that
abbrev pub output : ℕ → Input → List ℕ
output pages (Runs es) = text (journal pages es)
output pages (Refused r) = refusal_line r

-- store and log agree with the journal that it writes, if it writes one
abbrev pub AgreesWith : ℕ → Input → Held → Type 0
AgreesWith pages (Runs es) held = AgreesAt (journal pages es) held
AgreesWith pages (Refused r) held = IsBlank held

-- the laws hold of the journal that it writes
abbrev pub IsLawfulRun : ℕ → Input → Type 0
IsLawfulRun pages (Runs es) = Laws (journal pages es)
IsLawfulRun pages (Refused r) = Unit {0}

-- a script that is run has at most 10,000 events
abbrev pub IsWithinLimit : Input → Type 0
IsWithinLimit (Runs es) = length es ≤ 10000
IsWithinLimit (Refused r) = Unit {0}

-- an input that isn't too long was judged
abbrev pub JudgesScript : List ℕ → Input → Type 0
JudgesScript b input = input ≡ judged_script (script_of b)

-- the input was judged, and was read to its end unless it is too long
pub record JudgesWhole (old new : Option (List ℕ)) (input : Input) : Type 0 where
  pub read : input ≢ Refused refusals.TooLong → IsAtEnd new
  pub is : IfSome old (λ b. input ≡ judged b)
