-- The members of a list.
use Rattle.std.proofs.Common.{◌≡◌, ℕ, zero, suc, ◌<◌, ◌≤◌, Bool, true, false, cond, ◌⊎◌, List, [], ◌∷◌, Some, None, length, inl, inr, refl, sym, ◌∙◌, ap, subst, arith}
use Rattle.std.specs.List.{find}
use Rattle.cs_snapctx.specs.declared.realm.RealmRecord.{RealmRecord}
use Rattle.cs_snapctx.specs.Records.{is_of, record_of}

pub by_bool : {A : Type 0} (b : Bool) → (b ≡ true → A) → (b ≡ false → A) → A
by_bool true f g = f refl
by_bool false f g = g refl

-- x is one of the list
abbrev pub In : {X : Type 0} → X → List X → Type 0
In x [] = ⊥
In x (y ∷ ys) = (x ≡ y) ⊎ In x ys

-- the rest of a list from which x was taken
record WithoutOne {X : Type 0} (x : X) (xs : List X) : Type 0 where
  rest : List X
  shorter : length xs ≡ suc (length rest)
  others : (z : X) → In z xs → (z ≡ x) ⊎ In z rest

without_one : {X : Type 0} (x : X) (xs : List X) → In x xs → WithoutOne x xs
without_one x [] i = absurd i
without_one x (y ∷ ys) (inl e) = record { rest = ys; shorter = refl; others = λ z h. elim h [ inl f ↦ inl (f ∙ sym e) | inr t ↦ inr t ] }
without_one x (y ∷ ys) (inr i) =
    let w = without_one x ys i in
    record {
      rest = y ∷ w.rest;
      shorter = ap suc w.shorter;
      others = λ z h. elim h [ inl f ↦ inr (inl f) | inr t ↦ elim (w.others z t) [ inl f ↦ inl f | inr u ↦ inr (inr u) ] ];
    }

-- where each member has one place at most, and each of n places a member, the list has n members
pub few_places : {X : Type 0} (At : X → ℕ → Type 0) → ((x : X) (k l : ℕ) → At x k → At x l → k ≡ l) → (n : ℕ) (xs : List X)
    → ((k : ℕ) → k < n → (x : X) × In x xs × At x k) → n ≤ length xs
few_places At one zero xs all = omega arith
few_places {X} At one (suc n) xs all =
    let last = all n (omega arith) in
    let w = without_one last.0 xs last.1 in
    let others : (k : ℕ) → k < n → (x : X) × In x w.rest × At x k = λ k l. (
    let here = all k (omega arith) in
    elim (w.others here.0 here.1) [
      | inl e ↦ absurd (let same : k ≡ n = one last.0 k n (subst (λ z. At z k) e here.2) last.2 in omega arith)
      | inr t ↦ (here.0, t, here.2)
    ]
    ) in
    let fewer = few_places At one n w.rest others in
    omega (arith, w.shorter)

pub in_found : (i : ℕ) (rs : List RealmRecord) (r : RealmRecord) → record_of i rs ≡ Some r → In r rs
in_found i [] r f = absurd (none_some f)
  where
    none_some : None ≡ Some r → ⊥
    none_some e = cc
in_found i (x ∷ xs) r f = at (is_of i x) f (in_found i xs r)
  where
    at : (b : Bool) → cond b (Some x) (find (is_of i) xs) ≡ Some r → (find (is_of i) xs ≡ Some r → In r xs) → In r (x ∷ xs)
    at true e rest = inl (let same : r ≡ x = cc in same)
    at false e rest = inr (rest e)
