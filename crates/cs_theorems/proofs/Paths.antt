-- The paths of directories: each has the path of the directory above it behind the directory itself.
use Rattle.std.proofs.Common.{◌≡◌, ◌⊎◌, refl, sym, ap, ◌∙◌, subst, ℕ, ◌==◌, ◌||◌, Bool, true, false, cond, List, [], ◌∷◌, inl, inr, ⊎_elim}
use Rattle.std.proofs.lemmas.Bool.{cond_both, cond-true, cond-false, eqb-true, eq-eqb, both_ways, or_cases, or_left, or_right, or_parts, false_from_ne_true}
use Rattle.cs_laws.specs.declared.events.Event.{Event}
use Rattle.cs_laws.specs.declared.events.Event.TheVariants as e
use Rattle.cs_laws.specs.declared.answers.Entry.{Entry}
use Rattle.cs_laws.specs.declared.answers.Answer.{Answer}
use Rattle.cs_laws.specs.Answers.{answer_made, is_in_use}
use Rattle.cs_laws.specs.Events.{setup_file, setup_file_then}
use Rattle.cs_laws.specs.Journal.{entry}
use Rattle.cs_laws.specs.Tree.{home, is_directory, path, setup_dir, home_then, path_then}
use Rattle.cs_theorems.proofs.Listed.{Each, each_nil, each_cons, each_tail, Member}
use Rattle.cs_laws.specs.declared.answers.Answer.TheVariants as a

-- each directory of a way has the rest of the way above it
abbrev pub IsWay : (ℕ → List ℕ) → List ℕ → Type 0
IsWay up [] = Unit {0}
IsWay up (d ∷ ds) = (up d ≡ d ∷ ds) × IsWay up ds

-- dir d: d is a directory; up d: its path
pub record Tree (dir : ℕ → Bool) (up : ℕ → List ℕ) : Type 0 where
  pub ways : (d : ℕ) → IsWay up (up d)
  pub inside : (d : ℕ) → Each (λ x. dir x ≡ true) (up d)
  pub own : (d : ℕ) → dir d ≡ true → (ds : List ℕ) × (up d ≡ d ∷ ds)

abbrev pub TreeAt : List Entry → Type 0
TreeAt h = Tree (λ d. is_directory h d) (λ d. path h d)

-- A directory more

-- e is made in p
abbrev pub with_path : (ℕ → List ℕ) → ℕ → ℕ → ℕ → List ℕ
with_path up e p d = cond (e == d) (e ∷ up p) (up d)

-- it has no path before
apart : (dir : ℕ → Bool) (e d : ℕ) → dir e ≡ false → dir d ≡ true → (e == d) ≡ false
apart dir e d new old = false_from_ne_true (e == d) (λ same. both_ways (dir e) new (subst (λ k. dir k ≡ true) (sym (eqb-true e d same)) old))

way_more : (dir : ℕ → Bool) (up : ℕ → List ℕ) (e p : ℕ) (ds : List ℕ) → dir e ≡ false → Each (λ x. dir x ≡ true) ds → IsWay up ds
    → IsWay (with_path up e p) ds
way_more dir up e p [] new all i = tt
way_more dir up e p (d ∷ ds) new all i =
    (cond-false (e == d) (e ∷ up p) (up d) (apart dir e d new (all d (inl refl))) ∙ i.0, way_more dir up e p ds new (each_tail (λ x. dir x ≡ true) d ds all) i.1)

pub tree_more : (dir more : ℕ → Bool) (up : ℕ → List ℕ) (e p : ℕ) → dir e ≡ false → dir p ≡ true → ((d : ℕ) → dir d ≡ true → more d ≡ true) → more e ≡ true
    → ((d : ℕ) → more d ≡ true → (e == d) ≡ false → dir d ≡ true) → Tree dir up → Tree more (with_path up e p)
tree_more dir more up e p new above grows made back i = record {
  ways = λ d.
      cond_both (e == d) (e ∷ up p) (up d) (λ ds. IsWay (with_path up e p) ds)
      (λ _. (cond-true (e == e) (e ∷ up p) (up e) (eq-eqb e e refl), way_more dir up e p (up p) new (i.inside p) (i.ways p)))
      (λ _. way_more dir up e p (up d) new (i.inside d) (i.ways d));
  inside = λ d.
      cond_both (e == d) (e ∷ up p) (up d) (λ ds. Each (λ x. more x ≡ true) ds)
      (λ _. each_cons (λ x. more x ≡ true) e (up p) made (λ x m. grows x (i.inside p x m)))
      (λ _ x m. grows x (i.inside d x m));
  own = λ d is. at d is (e == d) refl;
}
  where
    at : (d : ℕ) → more d ≡ true → (b : Bool) → (e == d) ≡ b → (ds : List ℕ) × (cond b (e ∷ up p) (up d) ≡ d ∷ ds)
    at d is true same = (up p, ap (λ k. k ∷ up p) (eqb-true e d same))
    at d is false other = i.own d (back d is other)

-- Steps

pub still_dir : (e d : ℕ) (was : Bool) → ((d == 1) || was) ≡ true → ((d == 1) || cond (e == d) true was) ≡ true
still_dir e d was is =
    ⊎_elim (λ root. or_left (d == 1) _ root)
    (λ made. or_right (d == 1) _ (cond_both (e == d) true was (λ b. b ≡ true) (λ _. refl) (λ _. made)))
    (or_cases (d == 1) was is)

pub was_dir : (e d : ℕ) (was : Bool) → (e == d) ≡ false → ((d == 1) || cond (e == d) true was) ≡ true → ((d == 1) || was) ≡ true
was_dir e d was other is = subst (λ b. ((d == 1) || b) ≡ true) (cond-false (e == d) true was other) is

step_dir : (h : List Entry) (d p : ℕ) → TreeAt h → TreeAt (record { event = e.Dir d p; answer = answer_made h d p } ∷ h)
step_dir h d p i =
    cond_both (is_in_use h d) _ _ (λ x. TreeAt (record { event = e.Dir d p; answer = x } ∷ h)) (λ _. i)
    (λ new. cond_both (is_directory h p) _ _ (λ x. TreeAt (record { event = e.Dir d p; answer = x } ∷ h))
    (λ above. tree_more (λ k. is_directory h k) (λ k. (k == 1) || cond (d == k) true (setup_dir h k)) (λ k. path h k) d p
    (or_parts (is_directory h d) (setup_file h d) new).0 above
    (λ k is. still_dir d k (setup_dir h k) is)
    (or_right (d == 1) _ (cond-true (d == d) true (setup_dir h d) (eq-eqb d d refl)))
    (λ k is other. was_dir d k (setup_dir h k) other is) i)
    (λ _. i))

pub tree_step : (p : ℕ) (h : List Entry) (x : Event) → TreeAt h → TreeAt (entry p h x ∷ h)
tree_step p h (e.Dir d q) i = step_dir h d q i
tree_step p h _ i = i

or_none : (b : Bool) → (b || false) ≡ b
or_none true = refl
or_none false = refl

pub tree_first : TreeAt []
tree_first = record {
  ways = λ d. (refl, tt);
  inside = λ d. each_cons (λ x. is_directory [] x ≡ true) 1 [] refl (each_nil (λ x. is_directory [] x ≡ true));
  own = λ d is. ([], ap (λ k. k ∷ []) (sym (eqb-true d 1 (sym (or_none (d == 1)) ∙ is))));
}

-- Files

-- each file is in a directory
abbrev pub Housed : List Entry → Type 0
Housed h = (f : ℕ) → is_directory h (home h f) ≡ true

step_housed_dir : (h : List Entry) (d p : ℕ) → Housed h → Housed (record { event = e.Dir d p; answer = answer_made h d p } ∷ h)
step_housed_dir h d p i =
    cond_both (is_in_use h d) _ _ (λ x. Housed (record { event = e.Dir d p; answer = x } ∷ h)) (λ _. i)
    (λ _. cond_both (is_directory h p) _ _ (λ x. Housed (record { event = e.Dir d p; answer = x } ∷ h))
    (λ _ f. still_dir d (home h f) (setup_dir h (home h f)) (i f))
    (λ _. i))

step_housed_file : (h : List Entry) (g p : ℕ) → Housed h → Housed (record { event = e.File g p; answer = answer_made h g p } ∷ h)
step_housed_file h g p i =
    cond_both (is_in_use h g) _ _ (λ x. Housed (record { event = e.File g p; answer = x } ∷ h)) (λ _. i)
    (λ _. cond_both (is_directory h p) _ _ (λ x. Housed (record { event = e.File g p; answer = x } ∷ h))
    (λ above f. cond_both (g == f) p (home h f) (λ k. is_directory h k ≡ true) (λ _. above) (λ _. i f))
    (λ _. i))

pub housed_step : (p : ℕ) (h : List Entry) (x : Event) → Housed h → Housed (entry p h x ∷ h)
housed_step p h (e.Dir d q) i = step_housed_dir h d q i
housed_step p h (e.File g q) i = step_housed_file h g q i
housed_step p h _ i = i

pub housed_first : Housed []
housed_first f = refl

-- The path of a file of a setup line stays, but where it is made.

abbrev pub setup_path : List Entry → ℕ → List ℕ
setup_path h f = path h (home h f)

pub dir_path : (h : List Entry) (d p f : ℕ) → Housed h → setup_path (record { event = e.Dir d p; answer = answer_made h d p } ∷ h) f ≡ setup_path h f
dir_path h d p f i =
    cond_both (is_in_use h d) _ _ (λ x. setup_path (record { event = e.Dir d p; answer = x } ∷ h) f ≡ setup_path h f) (λ _. refl)
    (λ new. cond_both (is_directory h p) _ _ (λ x. setup_path (record { event = e.Dir d p; answer = x } ∷ h) f ≡ setup_path h f)
    (λ _. cond-false (d == home h f) _ _ (apart (λ k. is_directory h k) d (home h f) (or_parts (is_directory h d) (setup_file h d) new).0 (i f)))
    (λ _. refl))

file_stays : (h : List Entry) (g p f : ℕ) → (setup_path (record { event = e.File g p; answer = answer_made h g p } ∷ h) f ≡ setup_path h f) ⊎ (setup_file h f ≡ false)
file_stays h g p f =
    cond_both (is_in_use h g) _ _ (λ x. (setup_path (record { event = e.File g p; answer = x } ∷ h) f ≡ setup_path h f) ⊎ (setup_file h f ≡ false)) (λ _. inl refl)
    (λ new. cond_both (is_directory h p) _ _ (λ x. (setup_path (record { event = e.File g p; answer = x } ∷ h) f ≡ setup_path h f) ⊎ (setup_file h f ≡ false))
    (λ _. at (g == f) refl (or_parts (is_directory h g) (setup_file h g) new).1)
    (λ _. inl refl))
  where
    at : (b : Bool) → (g == f) ≡ b → setup_file h g ≡ false → (path h (cond b p (home h f)) ≡ setup_path h f) ⊎ (setup_file h f ≡ false)
    at true same new = inr (subst (λ k. setup_file h k ≡ false) (eqb-true g f same) new)
    at false other new = inl refl

-- the file was unknown, or its path stays
pub path_stays : (p : ℕ) (h : List Entry) (x : Event) (f : ℕ) → Housed h → (setup_path (entry p h x ∷ h) f ≡ setup_path h f) ⊎ (setup_file h f ≡ false)
path_stays p h (e.Dir d q) f i = inl (dir_path h d q f i)
path_stays p h (e.File g q) f i = file_stays h g q f
path_stays p h _ f i = inl refl

-- each path has the root
top_then : (x : Event) (y : Answer) (up : ℕ → List ℕ) (d : ℕ) → ((k : ℕ) → Member 1 (up k)) → Member 1 (path_then x y up d)
top_then (e.Dir g p) a.Made up d tops = cond_both (g == d) (g ∷ up p) (up d) (λ ds. Member 1 ds) (λ _. inr (tops p)) (λ _. tops d)
top_then _ _ up d tops = tops d

pub setup_top : (h : List Entry) (d : ℕ) → Member 1 (path h d)
setup_top [] d = inl refl
setup_top (x ∷ h) d = top_then x.event x.answer (λ k. path h k) d (λ k. setup_top h k)

-- a file that no setup line made has no directory of its own
home_unmade : (x : Event) (y : Answer) (f was : ℕ) (known : Bool) → setup_file_then x y f known ≡ false → (known ≡ false → was ≡ 1) → home_then x y f was ≡ 1
home_unmade (e.File g p) a.Made f was known none before = at (g == f) none
  where
    at : (b : Bool) → cond b true known ≡ false → cond b p was ≡ 1
    at true is = absurd cc
    at false is = before is
home_unmade _ _ f was known none before = before none

pub setup_home : (h : List Entry) (f : ℕ) → setup_file h f ≡ false → home h f ≡ 1
setup_home [] f none = refl
setup_home (x ∷ h) f none = home_unmade x.event x.answer f (home h f) (setup_file h f) none (λ before. setup_home h f before)
