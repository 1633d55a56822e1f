-- The texts of events and answers.
use Rattle.std.specs.Prelude.{ℕ, List, ◌++◌, codes, decimal}
use Rattle.cs_laws.specs.Texts.{at_text}
use Rattle.cs_text.specs.Hex.{hex_text}
use Rattle.cs_trim_script.specs.declared.answers.Answer.{Answer}
use Rattle.cs_trim_script.specs.declared.answers.Answer.TheVariants as answers
use Rattle.cs_trim_script.specs.declared.events.Event.{Event}
use Rattle.cs_trim_script.specs.declared.events.Event.TheVariants as events

abbrev pub event_text : Event → List ℕ
event_text events.Snap = codes "snap"
event_text (events.RmSnap s) = codes "rmsnap " ++ decimal s
event_text (events.Write b off bytes) = codes "write " ++ decimal b ++ codes " " ++ decimal off ++ codes " " ++ hex_text bytes
event_text events.Trim = codes "trim"
event_text (events.Clones b) = codes "clones " ++ decimal b
event_text (events.Read b a off len) =
    codes "read " ++ decimal b ++ codes " " ++ at_text a ++ codes " " ++ decimal off ++ codes " " ++ decimal len

abbrev pub answer_text : Answer → List ℕ
answer_text (answers.Snap s) = codes "snap " ++ decimal s
answer_text answers.NoSnap = codes "nosnap"
answer_text answers.Gone = codes "gone"
answer_text (answers.Removed s number) = codes "removed " ++ decimal s ++ codes " " ++ decimal number
answer_text (answers.Wrote number) = codes "wrote " ++ decimal number
answer_text (answers.Trimmed count) = codes "trimmed " ++ decimal count
answer_text (answers.Clones count) = codes "clones " ++ decimal count
answer_text (answers.Bytes bytes) = codes "bytes " ++ hex_text bytes
