-- The statuses of the numbers that were drawn, once a snapshot is removed.
use Rattle.std.proofs.Common.{◌≡◌, ◌≢◌, ◌∙◌, refl, sym, ap, ℕ, zero, suc, ◌-◌, ◌<◌, ◌==◌, Bool, true, false, cond, List, [], ◌∷◌, ◌++◌, length, get_or, slice_set, arith}
use Rattle.std.proofs.lemmas.Grind.{common_steps}
use Rattle.cs_trim.specs.declared.numbers.SnapStatus.{SnapStatus}
use Rattle.cs_trim.specs.declared.numbers.SnapStatus.TheVariants.{NoSnap, Gone, Standing}
use Rattle.cs_trim.specs.Clones.{is_standing}
use Rattle.cs_trim.specs.Held.{status_in}

pushed : (xs : List SnapStatus) (m : ℕ) → get_or (xs ++ NoSnap ∷ []) m NoSnap ≡ get_or xs m NoSnap
pushed [] zero = refl
pushed [] (suc m) = refl
pushed (x ∷ xs) zero = refl
pushed (x ∷ xs) (suc m) = pushed xs m

set_at : (b : Bool) (xs : List SnapStatus) (k m : ℕ) → (suc m == suc k) ≡ b → k < length xs
    → get_or (slice_set (xs ++ NoSnap ∷ []) k Gone) m NoSnap ≡ cond b Gone (get_or xs m NoSnap)
set_at true xs k m is less = let same : m ≡ k = grind (arith, common_steps, is) in grind (arith, common_steps, same)
set_at false xs k m is less = let other : m ≢ k = grind (arith, common_steps, is) in grind (arith, common_steps, other, pushed xs m)

drawn_before : (xs : List SnapStatus) (k : ℕ) → is_standing (get_or xs k NoSnap) ≡ true → k < length xs
drawn_before [] k stands = absurd (cc)
drawn_before (x ∷ xs) zero stands = omega arith
drawn_before (x ∷ xs) (suc k) stands = let less = drawn_before xs k stands in omega (arith, less)

set_status : (xs : List SnapStatus) (s n : ℕ) → is_standing (status_in xs s) ≡ true
    → status_in (slice_set (xs ++ NoSnap ∷ []) (s - 1) Gone) n ≡ cond (n == s) Gone (status_in xs n)
set_status xs zero n stands = absurd (cc)
set_status xs (suc k) zero stands =
    let other : (0 == suc k) ≡ false = grind (arith, common_steps) in ap (λ b. cond b Gone NoSnap) (sym other)
set_status xs (suc k) (suc m) stands =
    let place : suc k - 1 ≡ k = omega arith in
    ap (λ i. get_or (slice_set (xs ++ NoSnap ∷ []) i Gone) m NoSnap) place ∙ set_at (suc m == suc k) xs k m refl (drawn_before xs k stands)

pub removed_status : (old items view : List SnapStatus) (got s n : ℕ) → items ≡ old ++ NoSnap ∷ [] → old ≡ view → got ≡ s → status_in view s ≡ Standing
    → status_in (slice_set items (got - 1) Gone) n ≡ cond (n == s) Gone (status_in view n)
removed_status old items view got s n more same is stands =
    ap (λ xs. status_in (slice_set xs (got - 1) Gone) n) (more ∙ ap (λ xs. xs ++ NoSnap ∷ []) same)
    ∙ (ap (λ i. status_in (slice_set (view ++ NoSnap ∷ []) (i - 1) Gone) n) is ∙ set_status view s n (ap is_standing stands))
