-- What the tests of a list tell of its members.
use Rattle.std.proofs.Common.{◌≡◌, refl, sym, subst, Bool, true, false, List, [], ◌∷◌, ◌++◌, inl, inr, ⊎_elim, filter}
use Rattle.std.specs.List.{list_any}
use Rattle.std.proofs.lemmas.Bool.{cond_both, cond-true, or_left, or_right, or_cases, or_parts, true≢false}
use Rattle.cs_theorems.proofs.Listed.{Member, Each, each_nil, each_cons, member_right}

pub member_end : {A : Type 0} (x : A) (xs : List A) → Member x (xs ++ x ∷ [])
member_end x xs = member_right x xs (x ∷ []) (inl refl)

pub any_true : {A : Type 0} (p : A → Bool) (xs : List A) (x : A) → Member x xs → p x ≡ true → list_any p xs ≡ true
any_true p [] x m t = absurd m
any_true p (y ∷ ys) x (inl same) t = or_left (p y) (list_any p ys) (subst (λ z. p z ≡ true) (sym same) t)
any_true p (y ∷ ys) x (inr m) t = or_right (p y) (list_any p ys) (any_true p ys x m t)

-- a member that passes
abbrev pub Passes : {A : Type 0} → (A → Bool) → List A → Type 0
Passes {A = A} p xs = (x : A) × Member x xs × (p x ≡ true)

passes_more : {A : Type 0} (p : A → Bool) (y : A) (ys : List A) → Passes p ys → Passes p (y ∷ ys)
passes_more p y ys (x, m, t) = (x, inr m, t)

pub any_some : {A : Type 0} (p : A → Bool) (xs : List A) → list_any p xs ≡ true → Passes p xs
any_some p [] t = absurd (true≢false (sym t))
any_some p (y ∷ ys) t =
    ⊎_elim (λ here. (y, inl refl, here)) (λ there. passes_more p y ys (any_some p ys there)) (or_cases (p y) (list_any p ys) t)

pub any_none : {A : Type 0} (p : A → Bool) (xs : List A) → list_any p xs ≡ false → Each (λ x. p x ≡ false) xs
any_none p [] t = each_nil (λ x. p x ≡ false)
any_none p (y ∷ ys) t =
    let parts = or_parts (p y) (list_any p ys) t in
    each_cons (λ x. p x ≡ false) y ys parts.0 (any_none p ys parts.1)

-- a member that passes is in the filtered list
pub filter_has : {A : Type 0} (p : A → Bool) (xs : List A) (x : A) → Member x xs → p x ≡ true → Member x (filter p xs)
filter_has p [] x m t = m
filter_has p (y ∷ ys) x (inl same) t =
    subst (λ zs. Member x zs) (sym (cond-true (p y) (y ∷ filter p ys) (filter p ys) (subst (λ z. p z ≡ true) (sym same) t))) (inl same)
filter_has p (y ∷ ys) x (inr m) t =
    cond_both (p y) (y ∷ filter p ys) (filter p ys) (λ zs. Member x zs) (λ _. inr (filter_has p ys x m t)) (λ _. filter_has p ys x m t)

-- each that is in the filtered list passes, and was a member
pub filter_each : {A : Type 0} (p : A → Bool) (xs : List A) → Each (λ x. (p x ≡ true) × Member x xs) (filter p xs)
filter_each p [] = each_nil (λ x. (p x ≡ true) × Member x [])
filter_each p (y ∷ ys) =
    cond_both (p y) (y ∷ filter p ys) (filter p ys) (λ zs. Each (λ x. (p x ≡ true) × Member x (y ∷ ys)) zs)
    (λ t. each_cons (λ x. (p x ≡ true) × Member x (y ∷ ys)) y (filter p ys) (t, inl refl) (λ x m. ((filter_each p ys x m).0, inr (filter_each p ys x m).1)))
    (λ _ x m. ((filter_each p ys x m).0, inr (filter_each p ys x m).1))
