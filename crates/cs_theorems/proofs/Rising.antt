-- Lists of numbers that rise, and lists made of a list's members.
use Rattle.std.proofs.Common.{◌≡◌, sym, subst, ℕ, ◌<◌, ◌≤◌, List, [], ◌∷◌, ◌++◌, drop, arith, inl, inr}
use Rattle.std.specs.List.{flat_map}
use Rattle.cs_laws.specs.Lists.{Member}
use Rattle.cs_theorems.proofs.Listed.{member_left, member_right}

-- from one number by the others to at most a last one
abbrev pub RisesTo : ℕ → List ℕ → ℕ → Type 0
RisesTo s [] t = s ≤ t
RisesTo s (x ∷ xs) t = (s < x) × RisesTo x xs t

pub rises_low : (s t : ℕ) (xs : List ℕ) → RisesTo s xs t → s ≤ t
rises_low s t [] up = up
rises_low s t (x ∷ xs) up = omega (arith, up.0, rises_low x t xs up.1)

pub rises_end : (s t n : ℕ) (xs : List ℕ) → RisesTo s xs t → t < n → RisesTo s (xs ++ n ∷ []) n
rises_end s t n [] up more = (omega arith, omega arith)
rises_end s t n (x ∷ xs) up more = (up.0, rises_end x t n xs up.1 more)

pub rises_member : (s t n : ℕ) (xs : List ℕ) → RisesTo s xs t → Member n xs → (s < n) × (n ≤ t)
rises_member s t n [] up there = absurd there
rises_member s t n (x ∷ xs) up (inl is) = (omega (arith, is, up.0), omega (arith, is, rises_low x t xs up.1))
rises_member s t n (x ∷ xs) up (inr there) =
    let found = rises_member x t n xs up.1 there in (omega (arith, up.0, found.0), found.1)

pub member_flat : {A B : Type 0} (F : A → List B) (x : A) (y : B) (xs : List A) → Member x xs → Member y (F x) → Member y (flat_map F xs)
member_flat F x y [] there of = absurd there
member_flat F x y (z ∷ xs) (inl is) of = member_left y (F z) (flat_map F xs) (subst (λ a. Member y (F a)) (sym is) of)
member_flat F x y (z ∷ xs) (inr there) of = member_right y (F z) (flat_map F xs) (member_flat F x y xs there of)

-- the first of a list is taken
pub at_first : {A : Type 0} (P Q : List A → Type 0) (x : A) (xs all : List A) → all ≡ x ∷ xs → (P (x ∷ xs) → Q xs) → P all → Q (drop 1 all)
at_first P Q x xs all is step i = subst (λ ys. Q (drop 1 ys)) (sym is) (step (subst P is i))
