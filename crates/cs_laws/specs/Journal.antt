-- The one journal of a list of events, and its text.
use Rattle.std.specs.Prelude.{ℕ, ◌+◌, List, [], ◌∷◌, ◌++◌, length, codes, decimal}
use Rattle.cs_laws.specs.declared.events.Event.{Event}
use Rattle.cs_laws.specs.declared.answers.Entry.{Entry}
use Rattle.cs_laws.specs.Answers.{answer}
use Rattle.cs_laws.specs.Texts.{event_text, answer_text}

-- the event with its answer
abbrev pub entry : ℕ → List Entry → Event → Entry
entry pages h e = record { event = e; answer = answer pages h e }

-- the history after these events more
abbrev pub history : ℕ → List Entry → List Event → List Entry
history pages h [] = h
history pages h (e ∷ es) = history pages (entry pages h e ∷ h) es

-- the journal of a list of events, the newest entry first
abbrev pub journal : ℕ → List Event → List Entry
journal pages es = history pages [] es

-- the n-th line
abbrev pub line : ℕ → Entry → List ℕ
line n x = decimal n ++ (codes " " ++ (event_text x.event ++ (codes " -> " ++ (answer_text x.answer ++ codes "\n"))))

-- the lines of a history, the oldest first
abbrev pub lines : List Entry → List ℕ
lines [] = []
lines (x ∷ h) = lines h ++ line (length h + 1) x

abbrev pub header : List ℕ
header = codes "ceph-journal 1\n"

abbrev pub end_line : ℕ → List ℕ
end_line n = codes "end " ++ (decimal n ++ codes "\n")

-- the header, the lines, and how many there are
abbrev pub text : List Entry → List ℕ
text h = header ++ lines h ++ end_line (length h)
