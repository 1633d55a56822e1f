-- Membership in a list, and lists of numbers that rise.
use Rattle.std.specs.Prelude.{◌≡◌, ℕ, ◌<◌, List, [], ◌∷◌, ◌⊎◌}

abbrev pub Member : {A : Type 0} → A → List A → Type 0
Member x [] = ⊥
Member x (y ∷ ys) = (y ≡ x) ⊎ Member x ys

-- the fact holds of each member
abbrev pub Each : {A : Type 0} → (A → Type 0) → List A → Type 0
Each {A = A} P xs = (x : A) → Member x xs → P x

-- each number is greater than that before it, and the first is greater than n
abbrev pub RisesFrom : ℕ → List ℕ → Type 0
RisesFrom n [] = Unit {0}
RisesFrom n (x ∷ xs) = (n < x) × RisesFrom x xs
