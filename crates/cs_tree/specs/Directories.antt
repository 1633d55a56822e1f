-- The tree of directories, as contracts see it.
use Rattle.std.specs.Prelude.{◌≡◌, ℕ, ◌==◌, ◌&&◌, ◌||◌, nat_lt, Bool, false, List, [], ◌∷◌, Option, find, is_some, length, map, if◌then◌else◌}
use Rattle.std.specs.Option.{option_map_or}
use Rattle.cs_tree.specs.declared.directories.Directory.{Directory}

abbrev pub directory_of : ℕ → List Directory → Option Directory
directory_of d ds = find (λ x. x.ino == d) ds

abbrev pub has_directory : ℕ → List Directory → Bool
has_directory d ds = is_some (directory_of d ds)

-- the numbers of the directories, in their order
abbrev pub inos : List Directory → List ℕ
inos ds = map (λ x. x.ino) ds

-- the path of a directory, or that of the root where it is unknown
abbrev pub path_of : List Directory → ℕ → List ℕ
path_of ds d = option_map_or (λ x. x.path) (directory_of d ds) (1 ∷ [])

-- how many directories the path of one has
abbrev pub depth_of : List Directory → ℕ → ℕ
depth_of ds d = length (path_of ds d)

-- no directory stands twice
abbrev pub AreDistinct : List Directory → Type 0
AreDistinct [] = Unit {0}
AreDistinct (x ∷ xs) = (has_directory x.ino xs ≡ false) × AreDistinct xs

-- a is nearer to the root than b, or as near and has the lesser number
abbrev pub is_before : Directory → Directory → Bool
is_before a b = nat_lt (length a.path) (length b.path) || ((length a.path == length b.path) && nat_lt a.ino b.ino)

-- a directory at its place among others
abbrev pub with_added : Directory → List Directory → List Directory
with_added a [] = a ∷ []
with_added a (x ∷ xs) = if is_before a x then a ∷ x ∷ xs else x ∷ with_added a xs
