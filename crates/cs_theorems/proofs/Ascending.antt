-- Lists whose members have rising numbers, and those of their members that are above a number.
use Rattle.std.proofs.Common.{◌≡◌, refl, sym, ap, ◌∙◌, subst, ℕ, ◌<◌, ◌≤◌, nat_lt, Bool, true, false, List, [], ◌∷◌, ◌++◌, map, arith, inl, inr, ⊎_elim}
use Rattle.std.specs.List.{filter}
use Rattle.std.proofs.lemmas.Bool.{lt-ltb, le-ltb, cases_lt}
use Rattle.cs_laws.specs.Lists.{Each, Member, RisesFrom}
use Rattle.cs_theorems.specs.Replays.{above, last_from}

-- Rising numbers

pub last_end : {X : Type 0} (tid : X → ℕ) (n : ℕ) (xs : List X) (x : X) → last_from tid n (xs ++ x ∷ []) ≡ tid x
last_end tid n [] x = refl
last_end tid n (y ∷ xs) x = last_end tid (tid y) xs x

pub last_append : {X : Type 0} (tid : X → ℕ) (n : ℕ) (xs ys : List X) → last_from tid n (xs ++ ys) ≡ last_from tid (last_from tid n xs) ys
last_append tid n [] ys = refl
last_append tid n (x ∷ xs) ys = last_append tid (tid x) xs ys

pub last_low : {X : Type 0} (tid : X → ℕ) (n : ℕ) (xs : List X) → RisesFrom n (map tid xs) → n ≤ last_from tid n xs
last_low tid n [] up = omega arith
last_low tid n (x ∷ xs) up = omega (arith, up.0, last_low tid (tid x) xs up.1)

pub rises_front : {X : Type 0} (tid : X → ℕ) (n : ℕ) (xs ys : List X) → RisesFrom n (map tid (xs ++ ys)) → RisesFrom n (map tid xs)
rises_front tid n [] ys up = tt
rises_front tid n (x ∷ xs) ys up = (up.0, rises_front tid (tid x) xs ys up.1)

pub rises_behind : {X : Type 0} (tid : X → ℕ) (n : ℕ) (xs ys : List X) → RisesFrom n (map tid (xs ++ ys)) → RisesFrom (last_from tid n xs) (map tid ys)
rises_behind tid n [] ys up = up
rises_behind tid n (x ∷ xs) ys up = rises_behind tid (tid x) xs ys up.1

pub rises_end : {X : Type 0} (tid : X → ℕ) (n : ℕ) (xs : List X) (x : X) → RisesFrom n (map tid xs) → last_from tid n xs < tid x
    → RisesFrom n (map tid (xs ++ x ∷ []))
rises_end tid n [] x up more = (more, tt)
rises_end tid n (y ∷ xs) x up more = (up.0, rises_end tid (tid y) xs x up.1 more)

pub member_above : {X : Type 0} (tid : X → ℕ) (n : ℕ) (x : X) (xs : List X) → RisesFrom n (map tid xs) → Member x xs → n < tid x
member_above tid n x [] up there = absurd there
member_above tid n x (y ∷ xs) up (inl is) = omega (arith, up.0, ap tid is)
member_above tid n x (y ∷ xs) up (inr there) = omega (arith, up.0, member_above tid (tid y) x xs up.1 there)

pub member_upto : {X : Type 0} (tid : X → ℕ) (n : ℕ) (x : X) (xs : List X) → RisesFrom n (map tid xs) → Member x xs → tid x ≤ last_from tid n xs
member_upto tid n x [] up there = absurd there
member_upto tid n x (y ∷ xs) up (inl is) = omega (arith, ap tid is, last_low tid (tid y) xs up.1)
member_upto tid n x (y ∷ xs) up (inr there) = member_upto tid (tid y) x xs up.1 there

-- Those above a number

pub if_keeps : {X : Type 0} (p : X → Bool) (x : X) (xs : List X) → p x ≡ true → filter p (x ∷ xs) ≡ x ∷ filter p xs
if_keeps p x xs is = rw is refl

pub if_drops : {X : Type 0} (p : X → Bool) (x : X) (xs : List X) → p x ≡ false → filter p (x ∷ xs) ≡ filter p xs
if_drops p x xs is = rw is refl

pub above_one : {X : Type 0} (tid : X → ℕ) (n : ℕ) (x : X) (xs : List X) → n < tid x → above tid n (x ∷ xs) ≡ x ∷ above tid n xs
above_one tid n x xs more = if_keeps (λ y. nat_lt n (tid y)) x xs (lt-ltb n (tid x) more)

pub above_not : {X : Type 0} (tid : X → ℕ) (n : ℕ) (x : X) (xs : List X) → tid x ≤ n → above tid n (x ∷ xs) ≡ above tid n xs
above_not tid n x xs low = if_drops (λ y. nat_lt n (tid y)) x xs (le-ltb n (tid x) low)

-- each is
pub above_all : {X : Type 0} (tid : X → ℕ) (m n : ℕ) (xs : List X) → m ≤ n → RisesFrom n (map tid xs) → above tid m xs ≡ xs
above_all tid m n [] low up = refl
above_all tid m n (x ∷ xs) low up =
    above_one tid m x xs (omega (arith, up.0)) ∙ ap (λ ys. x ∷ ys) (above_all tid m (tid x) xs (omega (arith, up.0)) up.1)

-- none is
pub above_none : {X : Type 0} (tid : X → ℕ) (n : ℕ) (xs : List X) → Each (λ x. tid x ≤ n) xs → above tid n xs ≡ []
above_none tid n [] low = refl
above_none tid n (x ∷ xs) low = above_not tid n x xs (low x (inl refl)) ∙ above_none tid n xs (λ y there. low y (inr there))

both_above : {X : Type 0} (tid : X → ℕ) (m n : ℕ) (x : X) (xs : List X) → m < tid x → above tid n (above tid m xs) ≡ above tid n xs
    → above tid n (x ∷ above tid m xs) ≡ above tid n (x ∷ xs)
both_above tid m n x xs more rest = ⊎_elim
    (λ most. above_one tid n x (above tid m xs) most ∙ (ap (λ ys. x ∷ ys) rest ∙ sym (above_one tid n x xs most)))
    (λ less. above_not tid n x (above tid m xs) less ∙ (rest ∙ sym (above_not tid n x xs less)))
    (cases_lt n (tid x))

-- those above the greater number are those of them that are above the smaller
pub above_above : {X : Type 0} (tid : X → ℕ) (m n : ℕ) (xs : List X) → m ≤ n → above tid n (above tid m xs) ≡ above tid n xs
above_above tid m n [] low = refl
above_above tid m n (x ∷ xs) low =
    let rest : above tid n (above tid m xs) ≡ above tid n xs = above_above tid m n xs low in
    ⊎_elim
    (λ more. ap (above tid n) (above_one tid m x xs more) ∙ both_above tid m n x xs more rest)
    (λ less. ap (above tid n) (above_not tid m x xs less) ∙ (rest ∙ sym (above_not tid n x xs (omega arith))))
    (cases_lt m (tid x))

low_chosen : {X : Type 0} (tid : X → ℕ) (n : ℕ) (p : X → Bool) (x : X) (xs : List X) (b : Bool) → p x ≡ b → tid x ≤ n
    → above tid n (filter p xs) ≡ above tid n xs → above tid n (filter p (x ∷ xs)) ≡ above tid n (x ∷ xs)
low_chosen tid n p x xs true is less rest =
    ap (above tid n) (if_keeps p x xs is) ∙ (above_not tid n x (filter p xs) less ∙ (rest ∙ sym (above_not tid n x xs less)))
low_chosen tid n p x xs false is less rest = ap (above tid n) (if_drops p x xs is) ∙ (rest ∙ sym (above_not tid n x xs less))

-- a choice that has each above the number
pub above_chosen : {X : Type 0} (tid : X → ℕ) (n : ℕ) (p : X → Bool) (xs : List X) → Each (λ x. n < tid x → p x ≡ true) xs
    → above tid n (filter p xs) ≡ above tid n xs
above_chosen tid n p [] all = refl
above_chosen tid n p (x ∷ xs) all =
    let rest : above tid n (filter p xs) ≡ above tid n xs = above_chosen tid n p xs (λ y there. all y (inr there)) in
    ⊎_elim
    (λ more. ap (above tid n) (if_keeps p x xs (all x (inl refl) more))
    ∙ (above_one tid n x (filter p xs) more ∙ (ap (λ ys. x ∷ ys) rest ∙ sym (above_one tid n x xs more))))
    (λ less. low_chosen tid n p x xs (p x) refl less rest)
    (cases_lt n (tid x))

one_chosen : {X : Type 0} (p : X → Bool) (x y : X) (xs : List X) (b : Bool) → p y ≡ b → (Member x (filter p xs) → Member x xs)
    → Member x (filter p (y ∷ xs)) → Member x (y ∷ xs)
one_chosen p x y xs true is rest there = ⊎_elim (λ e. inl e) (λ m. inr (rest m)) (subst (λ ys. Member x ys) (if_keeps p y xs is) there)
one_chosen p x y xs false is rest there = inr (rest (subst (λ ys. Member x ys) (if_drops p y xs is) there))

pub chosen_member : {X : Type 0} (p : X → Bool) (x : X) (xs : List X) → Member x (filter p xs) → Member x xs
chosen_member p x [] there = absurd there
chosen_member p x (y ∷ xs) there = one_chosen p x y xs (p y) refl (λ m. chosen_member p x xs m) there
