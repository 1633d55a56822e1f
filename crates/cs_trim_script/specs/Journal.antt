-- The one journal of a list of events, and its text.
use Rattle.std.specs.Prelude.{ℕ, ◌+◌, List, [], ◌∷◌, ◌++◌, length, codes, decimal, if◌then◌else◌}
use Rattle.cs_laws.specs.declared.objects.At.{At}
use Rattle.cs_laws.specs.declared.objects.At.TheVariants as at
use Rattle.cs_laws.specs.Answers.{bytes_from}
use Rattle.cs_laws.specs.Journal.{end_line}
use Rattle.cs_trim.specs.declared.numbers.SnapStatus.{SnapStatus}
use Rattle.cs_trim.specs.declared.numbers.SnapStatus.TheVariants.{NoSnap, Gone, Standing}
use Rattle.cs_trim.specs.Clones.{given_up, is_standing, kept}
use Rattle.cs_trim.specs.Objects.{object_byte}
use Rattle.cs_trim.specs.Steps.{Step, taken, removed, wrote, trimmed, drawn, status}
use Rattle.cs_trim_script.specs.declared.answers.Answer.{Answer}
use Rattle.cs_trim_script.specs.declared.answers.Answer.TheVariants as answers
use Rattle.cs_trim_script.specs.declared.events.Event.{Event}
use Rattle.cs_trim_script.specs.declared.events.Event.TheVariants as events
use Rattle.cs_trim_script.specs.Texts.{answer_text, event_text}

-- an event with its answer
pub record Entry : Type 0 where
  pub event : Event
  pub answer : Answer

-- how many writes were done, to any object. Lists of steps have the newest first.
abbrev pub written : List Step → ℕ
written [] = 0
written (wrote b off bytes ∷ h) = written h + 1
written (taken ∷ h) = written h
written (removed s ∷ h) = written h
written (trimmed ∷ h) = written h

-- by what is known of a snapshot's number
abbrev pub answer_remove : SnapStatus → ℕ → ℕ → Answer
answer_remove NoSnap s number = answers.NoSnap
answer_remove Gone s number = answers.Gone
answer_remove Standing s number = answers.Removed s number

abbrev pub answer_read : SnapStatus → List ℕ → Answer
answer_read NoSnap bytes = answers.NoSnap
answer_read Gone bytes = answers.Gone
answer_read Standing bytes = answers.Bytes bytes

-- the present always stands
abbrev pub state_status : List Step → At → SnapStatus
state_status h at.Head = Standing
state_status h (at.Snap s) = status h s

-- the answer to an event after these steps
abbrev pub answer : List Step → Event → Answer
answer h events.Snap = answers.Snap (drawn h + 1)
answer h (events.RmSnap s) = answer_remove (status h s) s (drawn h + 1)
answer h (events.Write b off bytes) = answers.Wrote (written h + 1)
answer h events.Trim = answers.Trimmed (given_up 64 h)
answer h (events.Clones b) = answers.Clones (length (kept b h))
answer h (events.Read b a off len) = answer_read (state_status h a) (bytes_from (object_byte a b h) off len)

-- the steps once the event is done
abbrev pub after : List Step → Event → List Step
after h events.Snap = taken ∷ h
after h (events.RmSnap s) = if is_standing (status h s) then removed s ∷ h else h
after h (events.Write b off bytes) = wrote b off bytes ∷ h
after h events.Trim = trimmed ∷ h
after h (events.Clones b) = h
after h (events.Read b a off len) = h

-- the entries of these events after some steps, in order
abbrev pub entries : List Step → List Event → List Entry
entries h [] = []
entries h (e ∷ es) = record { event = e; answer = answer h e } ∷ entries (after h e) es

abbrev pub trim_journal : List Event → List Entry
trim_journal es = entries [] es

-- the n-th line
abbrev pub line : ℕ → Entry → List ℕ
line n x = decimal n ++ (codes " " ++ (event_text x.event ++ (codes " -> " ++ (answer_text x.answer ++ codes "\n"))))

-- the lines of these entries, the first of which is the n-th
abbrev pub lines : ℕ → List Entry → List ℕ
lines n [] = []
lines n (x ∷ xs) = line n x ++ lines (n + 1) xs

abbrev pub header : List ℕ
header = codes "ceph-trim-journal 1\n"

-- the header, the lines, and how many there are
abbrev pub text : List Entry → List ℕ
text xs = header ++ (lines 1 xs ++ end_line (length xs))
