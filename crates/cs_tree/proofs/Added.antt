-- A directory is added at its place.
use Rattle.std.proofs.Common.{◌≡◌, ℕ, ◌==◌, ◌||◌, Bool, true, false, cond, List, [], ◌∷◌, length, Option, Some, is_some, refl, sym, ◌∙◌, ap, arith}
use Rattle.std.proofs.lemmas.Bool.{eq-eqb, eqb-true}
use Rattle.std.proofs.lemmas.Bool.Decides.{nat_tests}
use Rattle.std.specs.List.{AllByRecursion}
use Rattle.std.specs.Option.{option_map_or}
use Rattle.cs_laws.specs.Tree.{is_ahead, with_directory}
use Rattle.cs_tree.specs.declared.directories.Directory.{Directory}
use Rattle.cs_tree.specs.Directories.{AreDistinct, depth_of, directory_of, has_directory, inos, is_before, path_of, with_added}

-- Choices

by_cond : {A : Type 0} (P : A → Type 0) (b : Bool) (x y : A) → (b ≡ true → P x) → (b ≡ false → P y) → P (cond b x y)
by_cond P true x y f g = f refl
by_cond P false x y f g = g refl

-- two choices in either order, whose tests don't both hold
exchange : {X : Type 0} (b c : Bool) (x y z : X) → (b ≡ true → c ≡ true → ⊥) → cond c y (cond b x z) ≡ cond b x (cond c y z)
exchange true true x y z apart = absurd (apart refl refl)
exchange true false x y z apart = refl
exchange false c x y z apart = refl

unknown_parts : (b : Bool) (x : Directory) (o : Option Directory) → is_some (cond b (Some x) o) ≡ false → (b ≡ false) × (is_some o ≡ false)
unknown_parts true x o e = absurd cc
unknown_parts false x o e = (refl, e)

flip : (m n : ℕ) → (m == n) ≡ false → (n == m) ≡ false
flip m n e = grind (arith, nat_tests)

found_or : (b : Bool) (x : Directory) (o : Option Directory) → is_some (cond b (Some x) o) ≡ (b || is_some o)
found_or true x o = refl
found_or false x o = refl

path_or : (b : Bool) (x : Directory) (o : Option Directory) (root : List ℕ) → option_map_or (λ y. y.path) (cond b (Some x) o) root ≡ cond b x.path (option_map_or (λ y. y.path) o root)
path_or true x o root = refl
path_or false x o root = refl

-- Look-ups

pub added_found : (a : Directory) (ds : List Directory) (d : ℕ) → has_directory a.ino ds ≡ false
    → directory_of d (with_added a ds) ≡ cond (a.ino == d) (Some a) (directory_of d ds)
added_found a [] d new = refl
added_found a (x ∷ xs) d new =
    let parts = unknown_parts (x.ino == a.ino) x (directory_of a.ino xs) new in
    let other : (x.ino == a.ino) ≡ false = parts.0 in
    let apart : (a.ino == d) ≡ true → (x.ino == d) ≡ true → ⊥ =
    λ p q. let same : (x.ino == a.ino) ≡ true = eq-eqb x.ino a.ino (eqb-true x.ino d q ∙ sym (eqb-true a.ino d p)) in cc in
    by_cond (λ (r : List Directory). directory_of d r ≡ cond (a.ino == d) (Some a) (cond (x.ino == d) (Some x) (directory_of d xs)))
    (is_before a x) (a ∷ x ∷ xs) (x ∷ with_added a xs)
    (λ before. refl)
    (λ behind. ap (λ o. cond (x.ino == d) (Some x) o) (added_found a xs d parts.1) ∙ exchange (a.ino == d) (x.ino == d) (Some a) (Some x) (directory_of d xs) apart)

pub added_members : (a : Directory) (ds : List Directory) (d : ℕ) → has_directory a.ino ds ≡ false → has_directory d (with_added a ds) ≡ ((a.ino == d) || has_directory d ds)
added_members a ds d new = ap is_some (added_found a ds d new) ∙ found_or (a.ino == d) a (directory_of d ds)

pub added_paths : (a : Directory) (ds : List Directory) (d : ℕ) → has_directory a.ino ds ≡ false → path_of (with_added a ds) d ≡ cond (a.ino == d) a.path (path_of ds d)
added_paths a ds d new = ap (λ o. option_map_or (λ y. y.path) o (1 ∷ [])) (added_found a ds d new) ∙ path_or (a.ino == d) a (directory_of d ds) (1 ∷ [])

pub added_distinct : (a : Directory) (ds : List Directory) → has_directory a.ino ds ≡ false → AreDistinct ds → AreDistinct (with_added a ds)
added_distinct a [] new distinct = (refl, tt)
added_distinct a (x ∷ xs) new distinct =
    let parts = unknown_parts (x.ino == a.ino) x (directory_of a.ino xs) new in
    by_cond AreDistinct (is_before a x) (a ∷ x ∷ xs) (x ∷ with_added a xs)
    (λ before. (new, distinct))
    (λ behind. (added_members a xs x.ino parts.1 ∙ ap (λ b. b || has_directory x.ino xs) (flip x.ino a.ino parts.0) ∙ distinct.0, added_distinct a xs parts.1 distinct.1))

-- Each directory is found under its number

each : (P Q : Directory → Type 0) → ((y : Directory) → P y → Q y) → (xs : List Directory) → AllByRecursion P xs → AllByRecursion Q xs
each P Q more [] all = tt
each P Q more (x ∷ xs) all = (more x all.0, each P Q more xs all.1)

-- a directory that is found isn't one that is unknown
apart_from : (n : ℕ) (y : Directory) (xs : List Directory) → has_directory n xs ≡ false → directory_of y.ino xs ≡ Some y → (n == y.ino) ≡ true → ⊥
apart_from n y xs new is same =
    let found : has_directory n xs ≡ true = ap (λ m. has_directory m xs) (eqb-true n y.ino same) ∙ ap is_some is in
    cc

behind : (x y : Directory) (xs : List Directory) → has_directory x.ino xs ≡ false → directory_of y.ino xs ≡ Some y → directory_of y.ino (x ∷ xs) ≡ Some y
behind x y xs new is =
    by_cond (λ (o : Option Directory). o ≡ Some y) (x.ino == y.ino) (Some x) (directory_of y.ino xs)
    (λ same. absurd (apart_from x.ino y xs new is same))
    (λ other. is)

pub owned : (ds : List Directory) → AreDistinct ds → AllByRecursion (λ y. directory_of y.ino ds ≡ Some y) ds
owned [] distinct = tt
owned (x ∷ xs) distinct = (
  ap (λ b. cond b (Some x) (directory_of x.ino xs)) (eq-eqb x.ino x.ino refl),
  each (λ y. directory_of y.ino xs ≡ Some y) (λ y. directory_of y.ino (x ∷ xs) ≡ Some y) (λ y is. behind x y xs distinct.0 is) xs (owned xs distinct.1),
)

-- The order

order_by : (depth : ℕ → ℕ) (a : Directory) (ds : List Directory) → depth a.ino ≡ length a.path → AllByRecursion (λ y. depth y.ino ≡ length y.path) ds
    → inos (with_added a ds) ≡ with_directory depth a.ino (inos ds)
order_by depth a [] own all = refl
order_by depth a (x ∷ xs) own all =
    let same : is_ahead depth a.ino x.ino ≡ is_before a x = rw (own, all.0) refl in
    at (is_before a x) (order_by depth a xs own all.1)
    ∙ ap (λ b. cond b (a.ino ∷ x.ino ∷ inos xs) (x.ino ∷ with_directory depth a.ino (inos xs))) (sym same)
  where
    at : (b : Bool) → inos (with_added a xs) ≡ with_directory depth a.ino (inos xs)
        → inos (cond b (a ∷ x ∷ xs) (x ∷ with_added a xs)) ≡ cond b (a.ino ∷ x.ino ∷ inos xs) (x.ino ∷ with_directory depth a.ino (inos xs))
    at true rest = refl
    at false rest = ap (λ ns. x.ino ∷ ns) rest

found_depth : (a y : Directory) (ds : List Directory) → has_directory a.ino ds ≡ false → directory_of y.ino ds ≡ Some y → depth_of (with_added a ds) y.ino ≡ length y.path
found_depth a y ds new is =
    ap length (added_paths a ds y.ino new)
    ∙ by_cond (λ (p : List ℕ). length p ≡ length y.path) (a.ino == y.ino) a.path (path_of ds y.ino)
    (λ same. absurd (apart_from a.ino y ds new is same))
    (λ other. ap (λ o. length (option_map_or (λ x. x.path) o (1 ∷ []))) is)

pub added_order : (a : Directory) (ds : List Directory) → has_directory a.ino ds ≡ false → AreDistinct ds → inos (with_added a ds) ≡ with_directory (depth_of (with_added a ds)) a.ino (inos ds)
added_order a ds new distinct =
    order_by (depth_of (with_added a ds)) a ds
    (ap length (added_paths a ds a.ino new) ∙ ap (λ b. length (cond b a.path (path_of ds a.ino))) (eq-eqb a.ino a.ino refl))
    (each (λ y. directory_of y.ino ds ≡ Some y) (λ y. depth_of (with_added a ds) y.ino ≡ length y.path) (λ y is. found_depth a y ds new is) ds (owned ds distinct))
