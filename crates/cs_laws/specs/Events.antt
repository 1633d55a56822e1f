-- Plain facts of a history: which files there are, and which numbers were drawn. A history is a list of
-- entries, the newest first. Each function of it is a fold of one step, which goes by the event first and
-- then by its answer.
use Rattle.std.specs.Prelude.{ℕ, ◌+◌, ◌==◌, Bool, true, false, List, [], ◌∷◌, if◌then◌else◌}
use Rattle.cs_laws.specs.declared.events.Event.{Event}
use Rattle.cs_laws.specs.declared.events.Event.TheVariants as events
use Rattle.cs_laws.specs.declared.answers.Answer.{Answer}
use Rattle.cs_laws.specs.declared.answers.Answer.TheVariants as answers
use Rattle.cs_laws.specs.declared.answers.Entry.{Entry}

-- a line of this kind stands before all others
abbrev pub is_setup : Event → Bool
is_setup (events.Dir d p) = true
is_setup (events.File f p) = true
is_setup _ = false

abbrev pub setup_file_then : Event → Answer → ℕ → Bool → Bool
setup_file_then (events.File g p) answers.Made f was = if g == f then true else was
setup_file_then _ _ f was = was

-- a `file` line made the file
abbrev pub setup_file : List Entry → ℕ → Bool
setup_file [] f = false
setup_file (x ∷ h) f = setup_file_then x.event x.answer f (setup_file h f)

abbrev pub files_then : Event → Answer → List ℕ → List ℕ
files_then (events.File g p) answers.Made fs = g ∷ fs
files_then _ _ fs = fs

-- the files that `file` lines made, the last one first
abbrev pub files : List Entry → List ℕ
files [] = []
files (x ∷ h) = files_then x.event x.answer (files h)

-- the time that was told last
abbrev pub clock_then : Event → Answer → ℕ → ℕ
clock_then (events.Clock t) (answers.Now u) was = u
clock_then _ _ was = was

abbrev pub clock : List Entry → ℕ
clock [] = 0
clock (x ∷ h) = clock_then x.event x.answer (clock h)

abbrev pub begun_then : Event → Answer → ℕ → ℕ → ℕ
begun_then (events.Begin caller f bits end) (answers.Ref number) c n = if caller == c then n + 1 else n
begun_then _ _ c n = n

-- how many references a caller has begun
abbrev pub begun : List Entry → ℕ → ℕ
begun [] c = 0
begun (x ∷ h) c = begun_then x.event x.answer c (begun h c)
