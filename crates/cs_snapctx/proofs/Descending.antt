-- Descending lists.
use Rattle.std.proofs.Common.{◌≡◌, ℕ, ◌<◌, ◌≤◌, ◌-◌, ◌∙◌, nat_eq, nat_lt, ◌↔◌, ◌⊎◌, List, [], ◌∷◌, length, get_or, suc, Contains, arith, inl, inr, refl, subst, sym}
use Rattle.std.specs.List.{ReversedBelow}
use Rattle.std.specs.List.Sorted.{IsStrictlyIncreasing}
use Rattle.std.proofs.lemmas.Bool.{eqb-false, eqb-true, ltb-false, ltb-true}
use Rattle.std.proofs.lemmas.List.Elements.{Contains-get_or}
use Rattle.std.proofs.lemmas.List.Kept.{AllPairs-cons, AllPairs-from_increasing}
use Rattle.cs_snapctx.specs.Context.{IsDescending, descending, with_snap}
use Rattle.cs_snapctx.proofs.Members.{by_cond, head_in, in_cases, none_in, tail_in}

-- the numbers behind the first are below it
pub below_head : (x : ℕ) (xs : List ℕ) → IsDescending (x ∷ xs) → (y : ℕ) → Contains xs y → y < x
below_head x xs falls y (k, below, is) = subst (λ z. z < x) is (falls 0 (suc k) y (omega arith) (omega arith))

pub IsDescending-tail : (x : ℕ) (xs : List ℕ) → IsDescending (x ∷ xs) → IsDescending xs
IsDescending-tail x xs falls i j d before below = falls (suc i) (suc j) d (omega arith) (omega arith)

pub IsDescending-cons : (x : ℕ) (xs : List ℕ) → ((y : ℕ) → Contains xs y → y < x) → IsDescending xs → IsDescending (x ∷ xs)
IsDescending-cons x xs below falls = AllPairs-cons (λ s t. t < s) x xs (λ k d h. below (get_or xs k d) (Contains-get_or xs k d h)) falls

-- a strictly increasing list is descending from its end on
pub IsDescending-reversed : (xs ys : List ℕ) (n : ℕ) → IsStrictlyIncreasing xs → ReversedBelow xs ys n → length xs ≡ n → length ys ≡ n → IsDescending ys
IsDescending-reversed xs ys n rises back same_x same_y i j d before below =
    rw (back i d (omega arith), back j d (omega arith)) (AllPairs-from_increasing xs rises (n - 1 - j) (n - 1 - i) d (omega arith) (omega arith))

-- two descending lists with the same members have the same first one
same_head : (x y : ℕ) (xs ys : List ℕ) → IsDescending (x ∷ xs) → IsDescending (y ∷ ys) → Contains (y ∷ ys) x → Contains (x ∷ xs) y → x ≡ y
same_head x y xs ys falls_x falls_y x_in y_in = elim (in_cases y ys x x_in) [
  | inl e ↦ sym e
  | inr x_behind ↦ elim (in_cases x xs y y_in) [
    | inl e ↦ e
    | inr y_behind ↦ omega (arith, below_head y ys falls_y x x_behind, below_head x xs falls_x y y_behind)
  ]
]

-- and what stands behind it in the one stands behind it in the other
still_behind : (x y : ℕ) (xs ys : List ℕ) → x ≡ y → IsDescending (x ∷ xs) → (s : ℕ) → (Contains (x ∷ xs) s → Contains (y ∷ ys) s) → Contains xs s → Contains ys s
still_behind x y xs ys same falls s moves s_in = elim (in_cases y ys s (moves (tail_in x xs s s_in))) [
  | inl e ↦ absurd (omega (arith, below_head x xs falls s s_in))
  | inr behind ↦ behind
]

-- two descending lists with the same members are equal
pub descending_equal : (xs ys : List ℕ) → IsDescending xs → IsDescending ys → ((s : ℕ) → Contains xs s ↔ Contains ys s) → xs ≡ ys
descending_equal [] [] falls_x falls_y members = refl
descending_equal [] (y ∷ ys) falls_x falls_y members = absurd (none_in y ((members y).1 (head_in y ys)))
descending_equal (x ∷ xs) [] falls_x falls_y members = absurd (none_in x ((members x).0 (head_in x xs)))
descending_equal (x ∷ xs) (y ∷ ys) falls_x falls_y members =
    let same : x ≡ y = same_head x y xs ys falls_x falls_y ((members x).0 (head_in x xs)) ((members y).1 (head_in y ys)) in
    let rest : xs ≡ ys =
    descending_equal xs ys (IsDescending-tail x xs falls_x) (IsDescending-tail y ys falls_y)
    (λ s. (still_behind x y xs ys same falls_x s (members s).0, still_behind y x ys xs (sym same) falls_y s (members s).1)) in
    cc

-- rs is descending and has s beside the members of ts
record IsWith (s : ℕ) (ts rs : List ℕ) : Type 0 where
  order : IsDescending rs
  members : (y : ℕ) → Contains rs y ↔ ((s ≡ y) ⊎ Contains ts y)

-- at the end
with_last : (s : ℕ) → IsWith s [] (s ∷ [])
with_last s = record {
  order = IsDescending-cons s [] (λ y h. absurd (none_in y h)) (λ i j d before below. omega arith);
  members = λ y. (
    λ h. in_cases s [] y h,
    λ h. elim h [ inl e ↦ subst (λ z. Contains (s ∷ []) z) e (head_in s []) | inr t ↦ absurd (none_in y t) ],
  );
}

-- before the first
with_first : (s t : ℕ) (ts : List ℕ) → IsDescending (t ∷ ts) → t < s → IsWith s (t ∷ ts) (s ∷ t ∷ ts)
with_first s t ts falls above = record {
  order = IsDescending-cons s (t ∷ ts)
      (λ y h. elim (in_cases t ts y h) [ inl e ↦ omega arith | inr b ↦ omega (arith, below_head t ts falls y b) ]) falls;
  members = λ y. (
    λ h. in_cases s (t ∷ ts) y h,
    λ h. elim h [ inl e ↦ subst (λ z. Contains (s ∷ t ∷ ts) z) e (head_in s (t ∷ ts)) | inr b ↦ tail_in s (t ∷ ts) y b ],
  );
}

-- where it stands already
with_same : (s t : ℕ) (ts : List ℕ) → IsDescending (t ∷ ts) → t ≡ s → IsWith s (t ∷ ts) (t ∷ ts)
with_same s t ts falls same = record {
  order = falls;
  members = λ y. (
    λ h. inr h,
    λ h. elim h [ inl e ↦ subst (λ z. Contains (t ∷ ts) z) (same ∙ e) (head_in t ts) | inr b ↦ b ],
  );
}

-- behind the first
with_later : (s t : ℕ) (ts rs : List ℕ) → IsDescending (t ∷ ts) → s < t → IsWith s ts rs → IsWith s (t ∷ ts) (t ∷ rs)
with_later s t ts rs falls under rest = record {
  order = IsDescending-cons t rs
      (λ y h. elim ((rest.members y).0 h) [ inl e ↦ omega arith | inr b ↦ below_head t ts falls y b ]) rest.order;
  members = λ y. (
    λ h. elim (in_cases t rs y h) [
      | inl e ↦ inr (subst (λ z. Contains (t ∷ ts) z) e (head_in t ts))
      | inr b ↦ elim ((rest.members y).0 b) [ inl e ↦ inl e | inr c ↦ inr (tail_in t ts y c) ]
    ],
    λ h. elim h [
      | inl e ↦ tail_in t rs y ((rest.members y).1 (inl e))
      | inr b ↦ elim (in_cases t ts y b) [
        | inl e ↦ subst (λ z. Contains (t ∷ rs) z) e (head_in t rs)
        | inr c ↦ tail_in t rs y ((rest.members y).1 (inr c))
      ]
    ],
  );
}

under : (t s : ℕ) → s ≤ t → (t ≡ s → ⊥) → s < t
under t s below other = omega arith

with_snap_is : (s : ℕ) (ts : List ℕ) → IsDescending ts → IsWith s ts (with_snap s ts)
with_snap_is s [] falls = with_last s
with_snap_is s (t ∷ ts) falls =
    by_cond (IsWith s (t ∷ ts)) (nat_lt t s) _ _ (λ above. with_first s t ts falls (ltb-true t s above))
    (λ not_above. by_cond (IsWith s (t ∷ ts)) (nat_eq t s) _ _ (λ same. with_same s t ts falls (eqb-true t s same))
    (λ other. with_later s t ts (with_snap s ts) falls (under t s (ltb-false t s not_above) (eqb-false t s other)) (with_snap_is s ts (IsDescending-tail t ts falls))))

-- rs is descending and has the members of xs
pub record IsInOrder (xs rs : List ℕ) : Type 0 where
  pub order : IsDescending rs
  pub members : (y : ℕ) → Contains rs y ↔ Contains xs y

one_more : (x : ℕ) (xs rs ss : List ℕ) → IsInOrder xs rs → IsWith x rs ss → IsInOrder (x ∷ xs) ss
one_more x xs rs ss rest more = record {
  order = more.order;
  members = λ y. (
    λ h. elim ((more.members y).0 h) [
      | inl e ↦ subst (λ z. Contains (x ∷ xs) z) e (head_in x xs)
      | inr b ↦ tail_in x xs y ((rest.members y).0 b)
    ],
    λ h. elim (in_cases x xs y h) [ inl e ↦ (more.members y).1 (inl e) | inr b ↦ (more.members y).1 (inr ((rest.members y).1 b)) ],
  );
}

pub descending_is : (xs : List ℕ) → IsInOrder xs (descending xs)
descending_is [] = record { order = λ i j d before below. omega arith; members = λ y. (λ h. h, λ h. h) }
descending_is (x ∷ xs) =
    let rest = descending_is xs in one_more x xs (descending xs) _ rest (with_snap_is x (descending xs) rest.order)
