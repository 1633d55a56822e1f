-- What is recorded goes to the place of its number in a file's table, which is where a search ends.
use Rattle.std.proofs.Common.{◌≡◌, refl, sym, ap, ◌∙◌, ℕ, zero, suc, ◌+◌, ◌<◌, ◌≤◌, nat_lt, List, [], ◌∷◌, length, get_or, ◌==◌, cond, arith}
use Rattle.std.specs.List.{insert}
use Rattle.std.proofs.lemmas.Bool.{cond-false, cond-true, eq-eqb, le-ltb, lt-ltb, ne_eqb}
use Rattle.std.proofs.Math.ListN.{set}
use Rattle.cs_ids.specs.declared.objects.FileMeta.{FileMeta}
use Rattle.cs_records.specs.Recorded.{AreRising, with_recorded}
use Rattle.cs_records.proofs.RecordedSteps.{Rises, are_rising, rises_with}

-- The order is kept

rises_of : (n : ℕ) (xs : List (ℕ × FileMeta)) → ((k : ℕ) (d : ℕ × FileMeta) → k < length xs → n ≤ (get_or xs k d).0) → AreRising xs → Rises n xs
rises_of n [] low rising = tt
rises_of n (x ∷ xs) low rising = (
  low 0 x (omega arith),
  rises_of (x.0 + 1) xs
      (λ k d within. let more = rising 0 (suc k) d (omega arith) (omega arith) in omega arith)
      (λ i j d less within. rising (suc i) (suc j) d (omega arith) (omega arith)),
)

pub rising_with : (x : ℕ × FileMeta) (xs : List (ℕ × FileMeta)) → AreRising xs → AreRising (with_recorded x xs)
rising_with x xs rising = are_rising 0 (with_recorded x xs) (rises_with 0 x xs (omega arith) (rises_of 0 xs (λ k d within. omega arith) rising))

-- The place

-- smaller numbers stand before the place, and greater ones from it on
pub record IsPlace (s : ℕ) (xs : List (ℕ × FileMeta)) (k : ℕ) : Type 0 where
  pub within : k ≤ length xs
  pub smaller : (j : ℕ) (d : ℕ × FileMeta) → j < k → (get_or xs j d).0 < s
  pub greater : (j : ℕ) (d : ℕ × FileMeta) → k ≤ j → j < length xs → s < (get_or xs j d).0

-- a smaller number stands in front
with_behind : (x y : ℕ × FileMeta) (ys : List (ℕ × FileMeta)) → y.0 < x.0 → with_recorded x (y ∷ ys) ≡ y ∷ with_recorded x ys
with_behind x y ys less = cond-true (nat_lt y.0 x.0) (y ∷ with_recorded x ys) (cond (y.0 == x.0) (x ∷ ys) (x ∷ y ∷ ys)) (lt-ltb y.0 x.0 less)

not_behind : (x y : ℕ × FileMeta) (ys : List (ℕ × FileMeta)) → x.0 ≤ y.0 → with_recorded x (y ∷ ys) ≡ cond (y.0 == x.0) (x ∷ ys) (x ∷ y ∷ ys)
not_behind x y ys high = cond-false (nat_lt y.0 x.0) (y ∷ with_recorded x ys) (cond (y.0 == x.0) (x ∷ ys) (x ∷ y ∷ ys)) (le-ltb y.0 x.0 high)

-- the number stands there already
pub with_set : (x : ℕ × FileMeta) (xs : List (ℕ × FileMeta)) (k : ℕ) (d : ℕ × FileMeta) → AreRising xs → k < length xs → (get_or xs k d).0 ≡ x.0
    → set xs k x ≡ with_recorded x xs
with_set x [] k d rising within same = absurd (omega arith)
with_set x (y ∷ ys) zero d rising within same =
    sym (not_behind x y ys (omega arith) ∙ cond-true (y.0 == x.0) (x ∷ ys) (x ∷ y ∷ ys) (eq-eqb y.0 x.0 same))
with_set x (y ∷ ys) (suc k) d rising within same =
    let less = rising 0 (suc k) d (omega arith) within in
    ap (λ zs. y ∷ zs) (with_set x ys k d (λ i j e low inside. rising (suc i) (suc j) e (omega arith) (omega arith)) (omega arith) same)
    ∙ sym (with_behind x y ys (omega arith))

-- or it doesn't
pub with_inserted : (x : ℕ × FileMeta) (xs : List (ℕ × FileMeta)) (k : ℕ) → IsPlace x.0 xs k → insert xs k x ≡ with_recorded x xs
with_inserted x [] zero i = refl
with_inserted x [] (suc k) i = absurd (omega (arith, i.within))
with_inserted x (y ∷ ys) zero i =
    let more : x.0 < y.0 = i.greater 0 y (omega arith) (omega arith) in
    sym (not_behind x y ys (omega arith) ∙ cond-false (y.0 == x.0) (x ∷ ys) (x ∷ y ∷ ys) (ne_eqb y.0 x.0 (λ same. omega arith)))
with_inserted x (y ∷ ys) (suc k) i =
    let rest : IsPlace x.0 ys k = record {
      within = omega (arith, i.within);
      smaller = λ j d low. i.smaller (suc j) d (omega arith);
      greater = λ j d low inside. i.greater (suc j) d (omega arith) (omega arith);
    } in
    ap (λ zs. y ∷ zs) (with_inserted x ys k rest) ∙ sym (with_behind x y ys (i.smaller 0 y (omega arith)))
