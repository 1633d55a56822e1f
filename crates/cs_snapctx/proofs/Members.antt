-- The members of a list of numbers.
use Rattle.std.proofs.Common.{◌≡◌, ℕ, Bool, true, false, cond, ◌↔◌, ◌⊎◌, List, [], ◌∷◌, filter, suc, zero, Contains, arith, inl, inr, subst, refl, sym}
use Rattle.std.proofs.lemmas.List.Elements.{Contains-append_right}

pub head_in : (x : ℕ) (xs : List ℕ) → Contains (x ∷ xs) x
head_in x xs = (0, omega arith, refl)

pub tail_in : (x : ℕ) (xs : List ℕ) (y : ℕ) → Contains xs y → Contains (x ∷ xs) y
tail_in x xs y h = Contains-append_right (x ∷ []) xs y h

pub none_in : (y : ℕ) → Contains [] y → ⊥
none_in y (k, below, is) = omega arith

-- a member is the first or one behind it
pub in_cases : (x : ℕ) (xs : List ℕ) (y : ℕ) → Contains (x ∷ xs) y → (x ≡ y) ⊎ Contains xs y
in_cases x xs y (zero, below, is) = inl is
in_cases x xs y (suc k, below, is) = inr (k, omega arith, is)

-- the cases of a choice
pub by_cond : {A : Type 0} (P : A → Type 0) (b : Bool) (x y : A) → (b ≡ true → P x) → (b ≡ false → P y) → P (cond b x y)
by_cond P true x y f g = f refl
by_cond P false x y f g = g refl

-- `filter` keeps the members that pass the test
kept_first : (p : ℕ → Bool) (x : ℕ) (xs : List ℕ) (y : ℕ) → p x ≡ true → (Contains (filter p xs) y ↔ (Contains xs y × (p y ≡ true))) → Contains (x ∷ filter p xs) y ↔ (Contains (x ∷ xs) y × (p y ≡ true))
kept_first p x xs y passes more = (
  λ h. elim (in_cases x (filter p xs) y h) [
    | inl e ↦ (subst (λ z. Contains (x ∷ xs) z) e (head_in x xs), subst (λ z. p z ≡ true) e passes)
    | inr t ↦ (tail_in x xs y (more.0 t).0, (more.0 t).1)
  ],
  λ h. elim (in_cases x xs y h.0) [
    | inl e ↦ subst (λ z. Contains (x ∷ filter p xs) z) e (head_in x (filter p xs))
    | inr t ↦ tail_in x (filter p xs) y (more.1 (t, h.1))
  ],
)

dropped_first : (p : ℕ → Bool) (x : ℕ) (xs : List ℕ) (y : ℕ) → p x ≡ false → (Contains (filter p xs) y ↔ (Contains xs y × (p y ≡ true))) → Contains (filter p xs) y ↔ (Contains (x ∷ xs) y × (p y ≡ true))
dropped_first p x xs y fails more = (
  λ h. (tail_in x xs y (more.0 h).0, (more.0 h).1),
  λ h. elim (in_cases x xs y h.0) [
    | inl e ↦ absurd (let passes : p x ≡ true = subst (λ z. p z ≡ true) (sym e) h.1 in cc)
    | inr t ↦ more.1 (t, h.1)
  ],
)

pub in_filter : (p : ℕ → Bool) (xs : List ℕ) (y : ℕ) → Contains (filter p xs) y ↔ (Contains xs y × (p y ≡ true))
in_filter p [] y = (λ h. absurd (none_in y h), λ h. absurd (none_in y h.0))
in_filter p (x ∷ xs) y =
    by_cond (λ (r : List ℕ). Contains r y ↔ (Contains (x ∷ xs) y × (p y ≡ true))) (p x) (x ∷ filter p xs) (filter p xs)
    (λ e. kept_first p x xs y e (in_filter p xs y))
    (λ e. dropped_first p x xs y e (in_filter p xs y))
