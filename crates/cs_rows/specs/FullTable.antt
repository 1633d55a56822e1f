-- After 256 live references the next one finds the table full.
use Rattle.std.specs.Prelude.{List, [], ◌∷◌, ◌++◌, replicate}
use Rattle.cs_laws.specs.declared.events.Event.{Event}
use Rattle.cs_laws.specs.declared.events.Event.TheVariants as events
use Rattle.cs_laws.specs.declared.answers.Answer.{Answer}
use Rattle.cs_laws.specs.declared.answers.Answer.TheVariants as answers
use Rattle.cs_laws.specs.declared.answers.Entry.{Entry}

abbrev pub events_read : List Event
events_read =
    events.File 100 1
    ∷ events.Grant 100 (record { 0 = 6144 }) 4096
    ∷ events.ToClient
    ∷ (replicate 256 (events.Begin 1 100 (record { 0 = 2048 }) 0) ++ events.Begin 2 100 (record { 0 = 2048 }) 0 ∷ [])

-- the answer of the newest entry
abbrev pub last_answer : List Entry → Answer
last_answer [] = answers.Idle
last_answer (x ∷ h) = x.answer
