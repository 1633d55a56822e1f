-- The tree of directories grows at its leaves by what requests make: paths stay, and the directories are listed parents first.
use Rattle.std.proofs.Common.{◌≡◌, refl, sym, ◌∙◌, subst, ℕ, ◌==◌, ◌||◌, ◌&&◌, Bool, true, false, cond, List, [], ◌∷◌, ◌++◌, length, ⊎_elim, not, inr}
use Rattle.std.proofs.lemmas.Bool.{cond-false, eqb-true, eq-eqb, both_ways, false_from_ne_true, or_cases, or_left, or_right, and_right, and_parts, cond_both, or_parts}
use Rattle.cs_laws.specs.Made.{Made, dirs_with, home_with, is_made_dir, is_made_file, makes_dir, path_with, with_made, makes_file}
use Rattle.cs_laws.specs.Tree.{with_directory}
use Rattle.cs_theorems.proofs.Listed.{Each, Member}
use Rattle.cs_theorems.proofs.Listing.{Listing, deepens_same, first_same, listing_more}
use Rattle.cs_theorems.proofs.Paths.{Tree, tree_more}

-- dir: the directories; used: the inodes in use, theirs and those of files
abbrev pub more_dirs : Made → (ℕ → Bool) → ℕ → Bool
more_dirs m dir d = dir d || is_made_dir d m

abbrev pub more_used : Made → (ℕ → Bool) → ℕ → Bool
more_used m used i = used i || (m.ino == i)

abbrev pub dirs_of : List Made → (ℕ → Bool) → ℕ → Bool
dirs_of [] dir d = dir d
dirs_of (m ∷ ms) dir d = dirs_of ms (λ k. more_dirs m dir k) d

abbrev pub used_of : List Made → (ℕ → Bool) → ℕ → Bool
used_of [] used i = used i
used_of (m ∷ ms) used i = used_of ms (λ k. more_used m used k) i

-- each has a new inode, and lies in a directory that is there by then
abbrev pub Grown : (ℕ → Bool) → (ℕ → Bool) → List Made → Type 0
Grown dir used [] = Unit {0}
Grown dir used (m ∷ ms) = (used m.ino ≡ false) × (dir m.dir ≡ true) × Grown (λ d. more_dirs m dir d) (λ i. more_used m used i) ms

-- directories are in use
abbrev pub AreUsed : (ℕ → Bool) → (ℕ → Bool) → Type 0
AreUsed dir used = (d : ℕ) → dir d ≡ true → used d ≡ true

-- What is there stays

or_assoc : (a b c : Bool) → ((a || b) || c) ≡ (a || (b || c))
or_assoc true b c = refl
or_assoc false b c = refl

or_none : (b : Bool) → b ≡ (b || false)
or_none true = refl
or_none false = refl

-- they are those before, and those that are made
pub dirs_are : (ms : List Made) (dir : ℕ → Bool) (d : ℕ) → dirs_of ms dir d ≡ (dir d || makes_dir d ms)
dirs_are [] dir d = or_none (dir d)
dirs_are (m ∷ ms) dir d = dirs_are ms (λ k. more_dirs m dir k) d ∙ or_assoc (dir d) (is_made_dir d m) (makes_dir d ms)

pub more_are_used : (m : Made) (dir used : ℕ → Bool) → AreUsed dir used → AreUsed (λ d. more_dirs m dir d) (λ i. more_used m used i)
more_are_used m dir used in_use d is =
    ⊎_elim
    (λ old. or_left (used d) _ (in_use d old))
    (λ new. or_right (used d) _ (and_parts m.is_dir (m.ino == d) new).1)
    (or_cases (dir d) (is_made_dir d m) is)

pub grown_front : (dir used : ℕ → Bool) (ms more : List Made) → Grown dir used (ms ++ more) → Grown dir used ms
grown_front dir used [] more i = tt
grown_front dir used (m ∷ ms) more i = (i.0, i.1, grown_front (λ d. more_dirs m dir d) (λ k. more_used m used k) ms more i.2)

pub grown_behind : (dir used : ℕ → Bool) (ms more : List Made) → Grown dir used (ms ++ more) → Grown (λ d. dirs_of ms dir d) (λ k. used_of ms used k) more
grown_behind dir used [] more i = i
grown_behind dir used (m ∷ ms) more i = grown_behind (λ d. more_dirs m dir d) (λ k. more_used m used k) ms more i.2

pub all_are_used : (ms : List Made) (dir used : ℕ → Bool) → AreUsed dir used → AreUsed (λ d. dirs_of ms dir d) (λ k. used_of ms used k)
all_are_used [] dir used in_use = in_use
all_are_used (m ∷ ms) dir used in_use = all_are_used ms (λ d. more_dirs m dir d) (λ k. more_used m used k) (more_are_used m dir used in_use)

-- Paths

-- a directory that is there isn't the one that is made
apart : (used : ℕ → Bool) (i d : ℕ) → used i ≡ false → used d ≡ true → (i == d) ≡ false
apart used i d new old = false_from_ne_true (i == d) (λ same. both_ways (used i) new (subst (λ k. used k ≡ true) (sym (eqb-true i d same)) old))

pub paths_stay : (dir used : ℕ → Bool) (ms : List Made) (up : ℕ → List ℕ) (d : ℕ) → AreUsed dir used → Grown dir used ms → dir d ≡ true
    → path_with ms up d ≡ up d
paths_stay dir used [] up d in_use i is = refl
paths_stay dir used (m ∷ ms) up d in_use i is =
    paths_stay (λ k. more_dirs m dir k) (λ k. more_used m used k) ms (λ k. with_made m up k) d (more_are_used m dir used in_use) i.2 (or_left (dir d) _ is)
    ∙ cond-false (is_made_dir d m) (m.ino ∷ up m.dir) (up d) (and_right m.is_dir (m.ino == d) (apart used m.ino d i.0 (in_use d is)))

pub paths_append : (ms more : List Made) (up : ℕ → List ℕ) (d : ℕ) → path_with (ms ++ more) up d ≡ path_with more (λ k. path_with ms up k) d
paths_append [] more up d = refl
paths_append (m ∷ ms) more up d = paths_append ms more (λ k. with_made m up k) d

-- what lies behind adds nothing to the path of a directory that is there
pub path_of_front : (dir used : ℕ → Bool) (ms more : List Made) (up : ℕ → List ℕ) (d : ℕ) → AreUsed dir used → Grown dir used (ms ++ more) → dirs_of ms dir d ≡ true
    → path_with (ms ++ more) up d ≡ path_with ms up d
path_of_front dir used ms more up d in_use i is =
    paths_append ms more up d
    ∙ paths_stay (λ k. dirs_of ms dir k) (λ k. used_of ms used k) more (λ k. path_with ms up k) d (all_are_used ms dir used in_use) (grown_behind dir used ms more i) is

-- Homes

pub home_in : (dir used : ℕ → Bool) (ms : List Made) (f was : ℕ) → Grown dir used ms → dir was ≡ true → dirs_of ms dir (home_with ms f was) ≡ true
home_in dir used [] f was i is = is
home_in dir used (m ∷ ms) f was i is =
    cond_both (is_made_file f m) m.dir was (λ k. dirs_of ms (λ d. more_dirs m dir d) (home_with ms f k) ≡ true)
    (λ _. home_in (λ k. more_dirs m dir k) (λ k. more_used m used k) ms f m.dir i.2 (or_left (dir m.dir) _ i.1))
    (λ _. home_in (λ k. more_dirs m dir k) (λ k. more_used m used k) ms f was i.2 (or_left (dir was) _ is))

home_append : (ms more : List Made) (f was : ℕ) → home_with (ms ++ more) f was ≡ home_with more f (home_with ms f was)
home_append [] more f was = refl
home_append (m ∷ ms) more f was = home_append ms more f (cond (is_made_file f m) m.dir was)

-- a file that is there stays where it is
home_stays : (dir used : ℕ → Bool) (ms : List Made) (f was : ℕ) → Grown dir used ms → used f ≡ true → home_with ms f was ≡ was
home_stays dir used [] f was i is = refl
home_stays dir used (m ∷ ms) f was i is =
    home_stays (λ k. more_dirs m dir k) (λ k. more_used m used k) ms f _ i.2 (or_left (used f) _ is)
    ∙ cond-false (is_made_file f m) m.dir was (and_right (not m.is_dir) (m.ino == f) (apart used m.ino f i.0 is))

pub home_of_front : (dir used : ℕ → Bool) (ms more : List Made) (f was : ℕ) → Grown dir used (ms ++ more) → used_of ms used f ≡ true
    → home_with (ms ++ more) f was ≡ home_with ms f was
home_of_front dir used ms more f was i is =
    home_append ms more f was
    ∙ home_stays (λ k. dirs_of ms dir k) (λ k. used_of ms used k) more f (home_with ms f was) (grown_behind dir used ms more i) is

-- none of these is the file
pub home_unmade : (ms : List Made) (f was : ℕ) → makes_file f ms ≡ false → home_with ms f was ≡ was
home_unmade [] f was none = refl
home_unmade (m ∷ ms) f was none =
    let parts = or_parts (is_made_file f m) (makes_file f ms) none in
    home_unmade ms f _ parts.1 ∙ cond-false (is_made_file f m) m.dir was parts.0

-- the files and directories that are made are in use
pub used_grow : (ms : List Made) (used : ℕ → Bool) (i : ℕ) → used i ≡ true → used_of ms used i ≡ true
used_grow [] used i is = is
used_grow (m ∷ ms) used i is = used_grow ms (λ k. more_used m used k) i (or_left (used i) _ is)

pub file_used : (ms : List Made) (used : ℕ → Bool) (f : ℕ) → makes_file f ms ≡ true → used_of ms used f ≡ true
file_used [] used f is = absurd (both_ways false refl is)
file_used (m ∷ ms) used f is =
    ⊎_elim
    (λ here. used_grow ms (λ k. more_used m used k) f (or_right (used f) _ (and_parts (not m.is_dir) (m.ino == f) here).1))
    (λ later. file_used ms (λ k. more_used m used k) f later)
    (or_cases (is_made_file f m) (makes_file f ms) is)

-- each path has the root
pub tops_grown : (ms : List Made) (up : ℕ → List ℕ) (d : ℕ) → ((k : ℕ) → Member 1 (up k)) → Member 1 (path_with ms up d)
tops_grown [] up d tops = tops d
tops_grown (m ∷ ms) up d tops =
    tops_grown ms (λ k. with_made m up k) d
    (λ k. cond_both (is_made_dir k m) (m.ino ∷ up m.dir) (up k) (λ ds. Member 1 ds) (λ _. inr (tops m.dir)) (λ _. tops k))

-- Trees and listings

pub tree_same : (dir more : ℕ → Bool) (up : ℕ → List ℕ) → ((d : ℕ) → dir d ≡ true → more d ≡ true) → ((d : ℕ) → more d ≡ true → dir d ≡ true) → Tree dir up
    → Tree more up
tree_same dir more up to from i = record { ways = i.ways; inside = λ d x m. to x (i.inside d x m); own = λ d is. i.own d (from d is) }

pub listing_same : (dir more : ℕ → Bool) (up : ℕ → List ℕ) (ds : List ℕ) → ((d : ℕ) → dir d ≡ true → more d ≡ true) → ((d : ℕ) → more d ≡ true → dir d ≡ true)
    → Listing dir up ds → Listing more up ds
listing_same dir more up ds to from i =
    record { listed = λ d is. i.listed d (from d is); only = λ d m. to d (i.only d m); first = i.first; deepens = i.deepens }

-- one more, a directory or a file
module _ (dir : ℕ → Bool) (up : ℕ → List ℕ) (e p : ℕ) (new : dir e ≡ false) (above : dir p ≡ true) (i : Tree dir up) where
  back : (d : ℕ) → (dir d || (e == d)) ≡ true → (e == d) ≡ false → dir d ≡ true
  back d is other = ⊎_elim (λ old. old) (λ same. absurd (both_ways (e == d) other same)) (or_cases (dir d) (e == d) is)

  now_there : (dir e || (e == e)) ≡ true
  now_there = or_right (dir e) _ (eq-eqb e e refl)

  none_more : (d : ℕ) → (dir d || false) ≡ true → dir d ≡ true
  none_more d is = or_none (dir d) ∙ is

  tree_one : (b : Bool) → Tree (λ d. dir d || (b && (e == d))) (λ d. cond (b && (e == d)) (e ∷ up p) (up d))
  tree_one true = tree_more dir (λ d. dir d || (e == d)) up e p new above (λ d is. or_left (dir d) _ is) now_there back i
  tree_one false = tree_same dir (λ d. dir d || false) up (λ d is. or_left (dir d) _ is) none_more i

  listing_one : (b : Bool) (ds : List ℕ) → Listing dir up ds
      → Listing (λ d. dir d || (b && (e == d))) (λ d. cond (b && (e == d)) (e ∷ up p) (up d))
      (cond b (with_directory (λ d. length (cond (b && (e == d)) (e ∷ up p) (up d))) e ds) ds)
  listing_one true ds l = listing_more dir (λ d. dir d || (e == d)) up e p ds new above (λ d is. or_left (dir d) _ is) now_there back i l
  listing_one false ds l = listing_same dir (λ d. dir d || false) up ds (λ d is. or_left (dir d) _ is) none_more l

pub not_dir : (dir used : ℕ → Bool) (i : ℕ) → AreUsed dir used → used i ≡ false → dir i ≡ false
not_dir dir used i in_use new = false_from_ne_true (dir i) (λ is. both_ways (used i) new (in_use i is))

pub tree_grown : (dir used : ℕ → Bool) (ms : List Made) (up : ℕ → List ℕ) → AreUsed dir used → Grown dir used ms → Tree dir up
    → Tree (λ d. dirs_of ms dir d) (λ d. path_with ms up d)
tree_grown dir used [] up in_use i tree = tree
tree_grown dir used (m ∷ ms) up in_use i tree =
    tree_grown (λ d. more_dirs m dir d) (λ k. more_used m used k) ms (λ d. with_made m up d) (more_are_used m dir used in_use) i.2
    (tree_one dir up m.ino m.dir (not_dir dir used m.ino in_use i.0) i.1 tree m.is_dir)

pub listing_grown : (dir used : ℕ → Bool) (ms : List Made) (up : ℕ → List ℕ) (ds : List ℕ) → AreUsed dir used → Grown dir used ms → Tree dir up → Listing dir up ds
    → Listing (λ d. dirs_of ms dir d) (λ d. path_with ms up d) (dirs_with ms up ds)
listing_grown dir used [] up ds in_use i tree l = l
listing_grown dir used (m ∷ ms) up ds in_use i tree l =
    let new = not_dir dir used m.ino in_use i.0 in
    listing_grown (λ d. more_dirs m dir d) (λ k. more_used m used k) ms (λ d. with_made m up d) _ (more_are_used m dir used in_use) i.2
    (tree_one dir up m.ino m.dir new i.1 tree m.is_dir) (listing_one dir up m.ino m.dir new i.1 tree m.is_dir ds l)

-- the list is that of other paths, where these agree on it
pub listing_paths : (dir : ℕ → Bool) (up new : ℕ → List ℕ) (ds : List ℕ) → Each (λ d. new d ≡ up d) ds → Listing dir up ds → Listing dir new ds
listing_paths dir up new ds same l =
    record { listed = l.listed; only = l.only; first = first_same up new [] ds same l.first; deepens = deepens_same up new 0 ds same l.deepens }
