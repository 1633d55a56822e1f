-- The scripts: which bytes are one, its events, and else its first fault.
use Rattle.std.specs.Prelude.{ℕ, ◌+◌, List, [], ◌∷◌, length, Result, Ok, Err, codes, if◌then◌else◌, nat_le, slice_get}
use Rattle.std.specs.Str.{bytes_eq}
use Rattle.cs_geom.specs.declared.places.TheConstants.{OBJECT_SIZE}
use Rattle.cs_laws.specs.declared.faults.Kind.{Kind}
use Rattle.cs_laws.specs.declared.faults.Kind.TheVariants as kinds
use Rattle.cs_laws.specs.declared.faults.ScriptFault.{ScriptFault}
use Rattle.cs_laws.specs.Fits.{most_shown}
use Rattle.cs_laws.specs.Grammar.{Words, ◌>>=◌, word_in, number_at, bytes_at, at_field, words_in, is_long, is_skipped, at_line}
use Rattle.cs_text.specs.Lines.{lines_in}
use Rattle.cs_trim_script.specs.declared.events.Event.{Event}
use Rattle.cs_trim_script.specs.declared.events.Event.TheVariants as events

-- these are all the words
abbrev pub only : ℕ → Event → Words → Result Event Kind
only n e ws = if nat_le (length ws) n then Ok e else Err kinds.Extra

-- so many bytes from an offset on end where an object ends, or before
abbrev pub ends_in_object : ℕ → ℕ → Event → Result Event Kind
ends_in_object off count e = if nat_le (off + count) OBJECT_SIZE then Ok e else Err kinds.Range

-- The events, each by the fields behind its first word. Word 0 names the event.

unfoldable pub remove_of : Words → Result Event Kind
remove_of ws = do
  s ← number_at 1 1 99999 ws
  only 2 (events.RmSnap s) ws

unfoldable pub write_of : Words → Result Event Kind
write_of ws = do
  b ← number_at 1 0 63 ws
  o ← number_at 2 0 65535 ws
  bs ← bytes_at 3 ws
  e ← only 4 (events.Write b o bs) ws
  ends_in_object o (length bs) e

unfoldable pub clones_of : Words → Result Event Kind
clones_of ws = do
  b ← number_at 1 0 63 ws
  only 2 (events.Clones b) ws

unfoldable pub read_of : Words → Result Event Kind
read_of ws = do
  b ← number_at 1 0 63 ws
  a ← at_field 2 ws
  o ← number_at 3 0 65535 ws
  n ← number_at 4 1 most_shown ws
  e ← only 5 (events.Read b a o n) ws
  ends_in_object o n e

unfoldable pub event_by : List ℕ → Words → Result Event Kind
event_by w ws =
    if bytes_eq w (codes "snap") then only 1 events.Snap ws
    else if bytes_eq w (codes "rmsnap") then remove_of ws
    else if bytes_eq w (codes "write") then write_of ws
    else if bytes_eq w (codes "trim") then only 1 events.Trim ws
    else if bytes_eq w (codes "clones") then clones_of ws
    else if bytes_eq w (codes "read") then read_of ws
    else Err kinds.Word

unfoldable pub event_of : Words → Result Event Kind
event_of ws = word_in (λ w. event_by w ws) (slice_get ws 0)

unfoldable pub line_event : List ℕ → Result Event Kind
line_event l = event_of (words_in l)

-- the events of the lines from the n-th on
abbrev pub events_from : ℕ → Words → Result (List Event) ScriptFault
events_from n [] = Ok []
events_from n (l ∷ ls) =
    if is_long l then at_line n (Err kinds.Long)
    else if is_skipped l then events_from (n + 1) ls
    else (at_line n (line_event l) >>= λ e. events_from (n + 1) ls >>= λ es. Ok (e ∷ es))

abbrev pub script_header : List ℕ
script_header = codes "ceph-trim 1"

abbrev pub script_of_lines : Words → Result (List Event) ScriptFault
script_of_lines [] = at_line 1 (Err kinds.Header)
script_of_lines (l ∷ ls) =
    if is_long l then at_line 1 (Err kinds.Long)
    else if bytes_eq l script_header then events_from 2 ls
    else at_line 1 (Err kinds.Header)

-- the events of a script, or its first bad line and what is wrong with it
unfoldable pub script_of : List ℕ → Result (List Event) ScriptFault
script_of b = script_of_lines (lines_in b)
