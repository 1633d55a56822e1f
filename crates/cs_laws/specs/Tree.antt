-- The tree of directories, as the setup lines make it. The root is directory 1.
use Rattle.std.specs.Prelude.{ℕ, ◌==◌, ◌&&◌, ◌||◌, Bool, true, false, List, [], ◌∷◌, length, nat_lt, if◌then◌else◌}
use Rattle.cs_laws.specs.declared.events.Event.{Event}
use Rattle.cs_laws.specs.declared.events.Event.TheVariants as events
use Rattle.cs_laws.specs.declared.answers.Answer.{Answer}
use Rattle.cs_laws.specs.declared.answers.Answer.TheVariants as answers
use Rattle.cs_laws.specs.declared.answers.Entry.{Entry}

abbrev pub setup_dir_then : Event → Answer → ℕ → Bool → Bool
setup_dir_then (events.Dir e p) answers.Made d was = if e == d then true else was
setup_dir_then _ _ d was = was

-- a `dir` line made the directory
abbrev pub setup_dir : List Entry → ℕ → Bool
setup_dir [] d = false
setup_dir (x ∷ h) d = setup_dir_then x.event x.answer d (setup_dir h d)

-- the root, or a directory that was made
abbrev pub is_directory : List Entry → ℕ → Bool
is_directory h d = (d == 1) || setup_dir h d

-- up: the path of a directory before the entry
abbrev pub path_then : Event → Answer → (ℕ → List ℕ) → ℕ → List ℕ
path_then (events.Dir e p) answers.Made up d = if e == d then e ∷ up p else up d
path_then _ _ up d = up d

-- a directory and those above it, the nearest first and the root last; of one that wasn't made, in which nothing lies, the root
abbrev pub path : List Entry → ℕ → List ℕ
path [] d = 1 ∷ []
path (x ∷ h) d = path_then x.event x.answer (λ e. path h e) d

abbrev pub home_then : Event → Answer → ℕ → ℕ → ℕ
home_then (events.File g p) answers.Made f was = if g == f then p else was
home_then _ _ f was = was

-- the directory in which a file was made
abbrev pub home : List Entry → ℕ → ℕ
home [] f = 1
home (x ∷ h) f = home_then x.event x.answer f (home h f)

-- d is nearer to the root than e, or as near and has the lesser number
abbrev pub is_ahead : (ℕ → ℕ) → ℕ → ℕ → Bool
is_ahead depth d e = nat_lt (depth d) (depth e) || ((depth d == depth e) && nat_lt d e)

-- a directory at its place among others
abbrev pub with_directory : (ℕ → ℕ) → ℕ → List ℕ → List ℕ
with_directory depth d [] = d ∷ []
with_directory depth d (e ∷ es) = if is_ahead depth d e then d ∷ e ∷ es else e ∷ with_directory depth d es

-- depth: how many directories the path of one has after the entry
abbrev pub directories_then : Event → Answer → (ℕ → ℕ) → List ℕ → List ℕ
directories_then (events.Dir d p) answers.Made depth ds = with_directory depth d ds
directories_then _ _ depth ds = ds

-- all directories, parents first: by depth, and then by number
abbrev pub directories : List Entry → List ℕ
directories [] = 1 ∷ []
directories (x ∷ h) = directories_then x.event x.answer (λ d. length (path (x ∷ h) d)) (directories h)
