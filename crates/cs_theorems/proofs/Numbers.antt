-- How often a number stands in a list that rises, and the numbers from one on.
use Rattle.std.proofs.Common.{◌≡◌, refl, ap, ◌∙◌, ℕ, zero, suc, ◌+◌, ◌<◌, ◌≤◌, List, [], ◌∷◌, ◌++◌, arith, inl, inr}
use Rattle.std.specs.List.{range_with_len}
use Rattle.std.proofs.lemmas.Bool.{cond-true, cond-false, eq-eqb, ne_eqb}
use Rattle.cs_laws.specs.Laws.{times}
use Rattle.cs_laws.specs.Lists.{Member, RisesFrom}

never : (s n : ℕ) (xs : List ℕ) → RisesFrom s xs → n ≤ s → times n xs ≡ 0
never s n [] up low = refl
never s n (x ∷ xs) up low = cond-false _ _ _ (ne_eqb x n (λ is. omega (arith, up.0))) ∙ never x n xs up.1 (omega (arith, up.0))

above : (s n : ℕ) (xs : List ℕ) → RisesFrom s xs → Member n xs → s < n
above s n [] up there = absurd there
above s n (x ∷ xs) up (inl is) = omega (arith, is, up.0)
above s n (x ∷ xs) up (inr there) = omega (arith, up.0, above x n xs up.1 there)

-- a number of a list that rises stands in it once
pub times_once : (s n : ℕ) (xs : List ℕ) → RisesFrom s xs → Member n xs → times n xs ≡ 1
times_once s n [] up there = absurd there
times_once s n (x ∷ xs) up (inl is) = cond-true _ _ _ (eq-eqb x n is) ∙ ap (λ k. k + 1) (never x n xs up.1 (omega arith))
times_once s n (x ∷ xs) up (inr there) =
    cond-false _ _ _ (ne_eqb x n (λ is. absurd (omega (arith, is, above x n xs up.1 there)))) ∙ times_once x n xs up.1 there

last_number : (a n j : ℕ) → a + n ≡ j → range_with_len a (suc n) ≡ range_with_len a n ++ j ∷ []
last_number a zero j is = let same : a ≡ j = omega arith in ap (λ k. k ∷ []) same
last_number a (suc n) j is = ap (λ xs. a ∷ xs) (last_number (a + 1) n j (omega arith))

-- one number more
pub range_end : (a n j : ℕ) → a + n ≡ j → range_with_len a (n + 1) ≡ range_with_len a n ++ j ∷ []
range_end a n j is = let more : n + 1 ≡ suc n = omega arith in ap (range_with_len a) more ∙ last_number a n j is
