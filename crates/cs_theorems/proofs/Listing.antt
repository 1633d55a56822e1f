-- The directories are listed, each behind those above it.
use Rattle.std.proofs.Common.{◌≡◌, ◌⊎◌, refl, sym, ap, subst, ℕ, ◌<◌, ◌≤◌, ◌==◌, ◌||◌, ◌&&◌, nat_lt, Bool, true, false, cond, List, [], ◌∷◌, length, drop, inl, inr, ⊎_elim, arith}
use Rattle.std.proofs.lemmas.Bool.{cond_both, cond-true, cond-false, eqb-true, eq-eqb, both_ways, or_cases, or_right, or_parts, and_parts, ltb-true, ltb-false, false_from_ne_true}
use Rattle.cs_laws.specs.declared.events.Event.{Event}
use Rattle.cs_laws.specs.declared.events.Event.TheVariants as e
use Rattle.cs_laws.specs.declared.answers.Entry.{Entry}
use Rattle.cs_laws.specs.Answers.{answer_made, is_in_use}
use Rattle.cs_laws.specs.Events.{setup_file}
use Rattle.cs_laws.specs.Journal.{entry}
use Rattle.cs_laws.specs.Tree.{directories, is_ahead, is_directory, path, setup_dir, with_directory}
use Rattle.cs_theorems.proofs.Listed.{Member, Each, each_nil, each_cons, each_tail}
use Rattle.cs_theorems.proofs.Paths.{IsWay, TreeAt, with_path, Tree, still_dir, was_dir}

-- each directory has those above it, the rest of its path, among those in front; seen: those in front of the list
abbrev pub ParentsFirst : (ℕ → List ℕ) → List ℕ → List ℕ → Type 0
ParentsFirst up seen [] = Unit {0}
ParentsFirst up seen (d ∷ ds) = Each (λ x. Member x seen) (drop 1 (up d)) × ParentsFirst up (d ∷ seen) ds

-- none of them is nearer to the root than the one before it, of which the depth is n
abbrev pub Deepens : (ℕ → ℕ) → ℕ → List ℕ → Type 0
Deepens depth n [] = Unit {0}
Deepens depth n (d ∷ ds) = (n ≤ depth d) × Deepens depth (depth d) ds

abbrev pub depth_of : (ℕ → List ℕ) → ℕ → ℕ
depth_of up d = length (up d)

pub record Listing (dir : ℕ → Bool) (up : ℕ → List ℕ) (ds : List ℕ) : Type 0 where
  pub listed : (d : ℕ) → dir d ≡ true → Member d ds
  pub only : Each (λ d. dir d ≡ true) ds
  pub first : ParentsFirst up [] ds
  pub deepens : Deepens (depth_of up) 0 ds

abbrev pub ListingAt : List Entry → Type 0
ListingAt h = Listing (λ d. is_directory h d) (λ d. path h d) (directories h)

-- One more

member_with : (depth : ℕ → ℕ) (e d : ℕ) (ds : List ℕ) → Member d ds → Member d (with_directory depth e ds)
member_with depth e d [] m = absurd m
member_with depth e d (x ∷ xs) m =
    cond_both (is_ahead depth e x) (e ∷ x ∷ xs) (x ∷ with_directory depth e xs) (λ ys. Member d ys) (λ _. inr m)
    (λ _. ⊎_elim (λ same. inl same) (λ more. inr (member_with depth e d xs more)) m)

new_with : (depth : ℕ → ℕ) (e : ℕ) (ds : List ℕ) → Member e (with_directory depth e ds)
new_with depth e [] = inl refl
new_with depth e (x ∷ xs) =
    cond_both (is_ahead depth e x) (e ∷ x ∷ xs) (x ∷ with_directory depth e xs) (λ ys. Member e ys) (λ _. inl refl) (λ _. inr (new_with depth e xs))

each_with : (P : ℕ → Type 0) (depth : ℕ → ℕ) (e : ℕ) (ds : List ℕ) → P e → Each P ds → Each P (with_directory depth e ds)
each_with P depth e [] p ps = each_cons P e [] p ps
each_with P depth e (x ∷ xs) p ps =
    cond_both (is_ahead depth e x) (e ∷ x ∷ xs) (x ∷ with_directory depth e xs) (λ ys. Each P ys)
    (λ _. each_cons P e (x ∷ xs) p ps)
    (λ _. each_cons P x (with_directory depth e xs) (ps x (inl refl)) (each_with P depth e xs p (each_tail P x xs ps)))

ahead_low : (depth : ℕ → ℕ) (e x : ℕ) → is_ahead depth e x ≡ true → depth e ≤ depth x
ahead_low depth e x is =
    ⊎_elim
    (λ less. omega (arith, ltb-true (depth e) (depth x) less))
    (λ same. omega (arith, eqb-true (depth e) (depth x) (and_parts (depth e == depth x) (nat_lt e x) same).0))
    (or_cases (nat_lt (depth e) (depth x)) ((depth e == depth x) && nat_lt e x) is)

behind_low : (depth : ℕ → ℕ) (e x : ℕ) → is_ahead depth e x ≡ false → depth x ≤ depth e
behind_low depth e x not =
    omega (arith, ltb-false (depth e) (depth x) (or_parts (nat_lt (depth e) (depth x)) ((depth e == depth x) && nat_lt e x) not).0)

deepens_with : (depth : ℕ → ℕ) (n e : ℕ) (ds : List ℕ) → n ≤ depth e → Deepens depth n ds → Deepens depth n (with_directory depth e ds)
deepens_with depth n e [] low i = (low, tt)
deepens_with depth n e (x ∷ xs) low i = at (is_ahead depth e x) refl (λ under. deepens_with depth (depth x) e xs under i.1)
  where
    at : (b : Bool) → is_ahead depth e x ≡ b → (depth x ≤ depth e → Deepens depth (depth x) (with_directory depth e xs))
        → Deepens depth n (cond b (e ∷ x ∷ xs) (x ∷ with_directory depth e xs))
    at true ahead rest = (low, (ahead_low depth e x ahead, i.1))
    at false behind rest = (i.0, rest (behind_low depth e x behind))

-- those that come before a depth are in front of where the list reaches it
deep_low : (depth : ℕ → ℕ) (n d : ℕ) (ds : List ℕ) → Deepens depth n ds → Member d ds → n ≤ depth d
deep_low depth n d [] i m = absurd m
deep_low depth n d (x ∷ xs) i (inl same) = subst (λ k. n ≤ depth k) same i.0
deep_low depth n d (x ∷ xs) i (inr m) = omega (arith, i.0, deep_low depth (depth x) d xs i.1 m)

first_more : (up : ℕ → List ℕ) (seen more ds : List ℕ) → ((d : ℕ) → Member d seen → Member d more) → ParentsFirst up seen ds → ParentsFirst up more ds
first_more up seen more [] grows i = tt
first_more up seen more (d ∷ ds) grows i = (
  λ x m. grows x (i.0 x m),
  first_more up (d ∷ seen) (d ∷ more) ds (λ x m. ⊎_elim (λ same. inl same) (λ there. inr (grows x there)) m) i.1,
)

-- above: those above the new one, each of which is in front or behind, and nearer to the root
first_with : (up : ℕ → List ℕ) (e : ℕ) (seen ds : List ℕ) (n : ℕ) → Each (λ x. (Member x seen ⊎ Member x ds) × (depth_of up x < depth_of up e)) (drop 1 (up e))
    → Deepens (depth_of up) n ds → ParentsFirst up seen ds → ParentsFirst up seen (with_directory (depth_of up) e ds)
first_with up e seen [] n above i first = (λ x m. ⊎_elim (λ there. there) (λ none. absurd none) (above x m).0, tt)
first_with up e seen (d ∷ ds) n above i first =
    at (is_ahead (depth_of up) e d) refl (λ more. first_with up e (d ∷ seen) ds (depth_of up d) more i.1 first.1)
  where
    at : (b : Bool) → is_ahead (depth_of up) e d ≡ b
        → (Each (λ x. (Member x (d ∷ seen) ⊎ Member x ds) × (depth_of up x < depth_of up e)) (drop 1 (up e)) → ParentsFirst up (d ∷ seen) (with_directory (depth_of up) e ds))
        → ParentsFirst up seen (cond b (e ∷ d ∷ ds) (d ∷ with_directory (depth_of up) e ds))
    at true ahead rest = (
      λ x m. ⊎_elim (λ there. there)
          (λ behind. absurd (omega (arith, (above x m).1, ahead_low (depth_of up) e d ahead, deep_low (depth_of up) (depth_of up d) x (d ∷ ds) (omega arith, i.1) behind))) (above x m).0,
      first_more up seen (e ∷ seen) (d ∷ ds) (λ x m. inr m) first,
    )
    at false behind rest = (
      first.0,
      rest (λ x m. (⊎_elim (λ there. inl (inr there)) (λ m2. ⊎_elim (λ same. inl (inl same)) (λ more. inr more) m2) (above x m).0, (above x m).1)),
    )

-- Other paths

pub first_same : (up new : ℕ → List ℕ) (seen ds : List ℕ) → Each (λ d. new d ≡ up d) ds → ParentsFirst up seen ds → ParentsFirst new seen ds
first_same up new seen [] same i = tt
first_same up new seen (d ∷ ds) same i =
    (subst (λ ps. Each (λ x. Member x seen) (drop 1 ps)) (sym (same d (inl refl))) i.0, first_same up new (d ∷ seen) ds (each_tail (λ x. new x ≡ up x) d ds same) i.1)

pub deepens_same : (up new : ℕ → List ℕ) (n : ℕ) (ds : List ℕ) → Each (λ d. new d ≡ up d) ds → Deepens (depth_of up) n ds → Deepens (depth_of new) n ds
deepens_same up new n [] same i = tt
deepens_same up new n (d ∷ ds) same i =
    let k : length (new d) ≡ length (up d) = ap (λ ps. length ps) (same d (inl refl)) in
    (omega (arith, i.0, k), subst (λ m. Deepens (depth_of new) m ds) (sym k) (deepens_same up new (length (up d)) ds (each_tail (λ x. new x ≡ up x) d ds same) i.1))

-- a way gets shorter upwards
way_short : (up : ℕ → List ℕ) (ds : List ℕ) → IsWay up ds → (x : ℕ) → Member x ds → depth_of up x ≤ length ds
way_short up [] way x m = absurd m
way_short up (d ∷ ds) way x (inl same) = subst (λ k. depth_of up k ≤ length (d ∷ ds)) same (omega (arith, ap (λ ps. length ps) way.0))
way_short up (d ∷ ds) way x (inr m) = omega (arith, way_short up ds way.1 x m)

-- A directory more: e is made in p

module _ (dir more : ℕ → Bool) (up : ℕ → List ℕ) (e p : ℕ) (ds : List ℕ) (new : dir e ≡ false) (above : dir p ≡ true)
    (grows : (k : ℕ) → dir k ≡ true → more k ≡ true) (made : more e ≡ true) (back : (k : ℕ) → more k ≡ true → (e == k) ≡ false → dir k ≡ true)
    (tree : Tree dir up) (i : Listing dir up ds) where
  abbrev now : ℕ → List ℕ
  now k = with_path up e p k

  other : (k : ℕ) → dir k ≡ true → (e == k) ≡ false
  other k old = false_from_ne_true (e == k) (λ same. both_ways (dir e) new (subst (λ j. dir j ≡ true) (sym (eqb-true e k same)) old))

  same_paths : Each (λ k. now k ≡ up k) ds
  same_paths = λ k m. cond-false (e == k) (e ∷ up p) (up k) (other k (i.only k m))

  own_path : now e ≡ e ∷ up p
  own_path = cond-true (e == e) (e ∷ up p) (up e) (eq-eqb e e refl)

  abbrev IsAbove : ℕ → Type 0
  IsAbove x = (Member x [] ⊎ Member x ds) × (depth_of now x < depth_of now e)

  parents : Each IsAbove (drop 1 (now e))
  parents =
      subst (λ ps. Each IsAbove (drop 1 ps)) (sym own_path)
      (λ x m.
      let there = tree.inside p x m in
      let len : length (now x) ≡ length (up x) = ap (λ ps. length ps) (cond-false (e == x) (e ∷ up p) (up x) (other x there)) in
      let top : length (now e) ≡ length (e ∷ up p) = ap (λ ps. length ps) own_path in
      (inr (i.listed x there), omega (arith, len, top, way_short up (up p) (tree.ways p) x m)))

  listed_now : (k : ℕ) (b : Bool) → (e == k) ≡ b → more k ≡ true → Member k (with_directory (depth_of now) e ds)
  listed_now k true same is = subst (λ j. Member j (with_directory (depth_of now) e ds)) (eqb-true e k same) (new_with (depth_of now) e ds)
  listed_now k false differs is = member_with (depth_of now) e k ds (i.listed k (back k is differs))

  pub listing_more : Listing more now (with_directory (depth_of now) e ds)
  listing_more = record {
    listed = λ k is. listed_now k (e == k) refl is;
    only = each_with (λ k. more k ≡ true) (depth_of now) e ds made (λ k m. grows k (i.only k m));
    first = first_with now e [] ds 0 parents (deepens_same up now 0 ds same_paths i.deepens) (first_same up now [] ds same_paths i.first);
    deepens = deepens_with (depth_of now) 0 e ds (omega arith) (deepens_same up now 0 ds same_paths i.deepens);
  }

-- Steps

step_dir : (h : List Entry) (d p : ℕ) → TreeAt h → ListingAt h → ListingAt (record { event = e.Dir d p; answer = answer_made h d p } ∷ h)
step_dir h d p tree i =
    cond_both (is_in_use h d) _ _ (λ x. ListingAt (record { event = e.Dir d p; answer = x } ∷ h)) (λ _. i)
    (λ new. cond_both (is_directory h p) _ _ (λ x. ListingAt (record { event = e.Dir d p; answer = x } ∷ h))
    (λ above. listing_more (λ k. is_directory h k) (λ k. (k == 1) || cond (d == k) true (setup_dir h k)) (λ k. path h k) d p (directories h)
    (or_parts (is_directory h d) (setup_file h d) new).0 above
    (λ k is. still_dir d k (setup_dir h k) is)
    (or_right (d == 1) _ (cond-true (d == d) true (setup_dir h d) (eq-eqb d d refl)))
    (λ k is other. was_dir d k (setup_dir h k) other is) tree i)
    (λ _. i))

pub listing_step : (p : ℕ) (h : List Entry) (x : Event) → TreeAt h → ListingAt h → ListingAt (entry p h x ∷ h)
listing_step p h (e.Dir d q) tree i = step_dir h d q tree i
listing_step p h _ tree i = i

only_root : (d : ℕ) → is_directory [] d ≡ true → Member d (1 ∷ [])
only_root d is = ⊎_elim (λ root. inl (sym (eqb-true d 1 root))) (λ none. absurd (both_ways false refl none)) (or_cases (d == 1) false is)

pub listing_first : ListingAt []
listing_first = record {
  listed = only_root;
  only = each_cons (λ d. is_directory [] d ≡ true) 1 [] refl (each_nil (λ d. is_directory [] d ≡ true));
  first = (each_nil (λ x. Member x []), tt);
  deepens = (omega arith, tt);
}
