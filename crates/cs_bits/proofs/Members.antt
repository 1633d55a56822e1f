-- Sets by their members: a bit is in a union, a meet or a difference exactly where sets have it, and sets with the same bits are equal.
use Rattle.std.proofs.Common.{◌≡◌, ◌≢◌, ◌↔◌, ◌⊎◌, ℕ, zero, suc, ◌-◌, ◌*◌, ◌^◌, ◌<◌, min, max, true, refl, sym, ap, ◌∙◌, inl, inr, arith, bit_and, subst, lit<}
use Rattle.std.specs.Int.{bit_at}
use Rattle.std.proofs.lemmas.Nat.{pow_pos}
use Rattle.std.proofs.lemmas.Nat.Bits.{and_pow, bit_at-lt, bit_at_and, bit_at_or, bit_at_not, bit_at_above, bit_at-zero, bit_at-pow_other, same_from_bits}
use Rattle.std.proofs.lemmas.Bool.{cases_lt}
use Rattle.std.proofs.lemmas.Bool.Decides.{Decides-eqb}
use Rattle.cs_bits.specs.declared.Caps.{Caps}
use Rattle.cs_bits.specs.Bits.{Has, union, meet, minus, covers, no_caps, is_empty, fits, every_cap}
use mir.Syntax.{w16}

-- ---- one bit

one_from_product : (b p v : ℕ) → b < 2 → v ≡ b * p → v ≢ 0 → b ≡ 1
one_from_product zero p v small e some = absurd (some (omega (arith, e)))
one_from_product (suc zero) p v small e some = refl
one_from_product (suc (suc b)) p v small e some = absurd (omega arith)

product_of_one : (b p v : ℕ) → b ≡ 1 → v ≡ b * p → 0 < p → v ≢ 0
product_of_one b p v one e some none = let e' : v ≡ 1 * p = e ∙ ap (λ x. x * p) one in omega arith

pub bit_at-Has : (c : Caps) (k : ℕ) → Has c k → bit_at c.0 k ≡ 1
bit_at-Has c k has = one_from_product (bit_at c.0 k) (2 ^ k) (bit_and c.0 (2 ^ k)) (bit_at-lt c.0 k) (and_pow c.0 k) has

pub Has-bit_at : (c : Caps) (k : ℕ) → bit_at c.0 k ≡ 1 → Has c k
Has-bit_at c k one = product_of_one (bit_at c.0 k) (2 ^ k) (bit_and c.0 (2 ^ k)) one (and_pow c.0 k) (pow_pos k)

-- ---- the operations

either : (x y m : ℕ) → x < 2 → y < 2 → m ≡ max x y → m ≡ 1 → (x ≡ 1) ⊎ (y ≡ 1)
either zero y m xs ys e one = inr (omega arith)
either (suc zero) y m xs ys e one = inl refl
either (suc (suc x)) y m xs ys e one = absurd (omega arith)

pub Has-union : (a b : Caps) (k : ℕ) → Has (union a b) k ↔ (Has a k ⊎ Has b k)
Has-union a b k = (
  λ has. elim (either (bit_at a.0 k) (bit_at b.0 k) _ (bit_at-lt a.0 k) (bit_at-lt b.0 k) (bit_at_or a.0 b.0 k) (bit_at-Has (union a b) k has)) [
    | inl one ↦ inl (Has-bit_at a k one)
    | inr one ↦ inr (Has-bit_at b k one)
  ],
  λ one. elim one [
    | inl has ↦ Has-bit_at (union a b) k
        (omega (arith, bit_at_or a.0 b.0 k, bit_at-Has a k has, bit_at-lt a.0 k, bit_at-lt b.0 k))
    | inr has ↦ Has-bit_at (union a b) k
        (omega (arith, bit_at_or a.0 b.0 k, bit_at-Has b k has, bit_at-lt a.0 k, bit_at-lt b.0 k))
  ],
)

both : (x y m : ℕ) → x < 2 → y < 2 → m ≡ min x y → m ≡ 1 → (x ≡ 1) × (y ≡ 1)
both x y m xs ys e one = (omega arith, omega arith)

both_back : (x y m : ℕ) → m ≡ min x y → x ≡ 1 → y ≡ 1 → m ≡ 1
both_back x y m e one other = omega arith

pub Has-meet : (a b : Caps) (k : ℕ) → Has (meet a b) k ↔ (Has a k × Has b k)
Has-meet a b k = (
  λ has. let ones = both (bit_at a.0 k) (bit_at b.0 k) _ (bit_at-lt a.0 k) (bit_at-lt b.0 k) (bit_at_and a.0 b.0 k) (bit_at-Has (meet a b) k has)
      in (Has-bit_at a k ones.0, Has-bit_at b k ones.1),
  λ has. Has-bit_at (meet a b) k
      (both_back (bit_at a.0 k) (bit_at b.0 k) _ (bit_at_and a.0 b.0 k) (bit_at-Has a k has.0) (bit_at-Has b k has.1)),
)

-- a set below 2 ^ 16 has no place from 16 on
pub Has-lt : (a : Caps) (k : ℕ) → a.0 < 2 ^ 16 → Has a k → k < 16
Has-lt a k small has = elim (cases_lt k 16) [
  | inl lt ↦ lt
  | inr le ↦ absurd (omega (arith, bit_at_above a.0 16 k small le, bit_at-Has a k has))
]

-- the bits that b lacks
lacks : (b : Caps) (k : ℕ) → b.0 < 2 ^ 16 → k < 16 → bit_at (65535 - b.0) k ≡ 1 - bit_at b.0 k
lacks b k small place = bit_at_not w16 b.0 k small place

-- what is taken away is gone
pub minus-Has : (a b : Caps) (k : ℕ) → a.0 < 2 ^ 16 → b.0 < 2 ^ 16 → Has (minus a b) k → Has a k × ¬ (Has b k)
minus-Has a b k a_small b_small has =
    let ones = both (bit_at a.0 k) (bit_at (65535 - b.0) k) _ (bit_at-lt a.0 k) (bit_at-lt (65535 - b.0) k) (bit_at_and a.0 (65535 - b.0) k) (bit_at-Has (minus a b) k has)
    in let in_a : Has a k = Has-bit_at a k ones.0
    in (in_a, λ in_b. omega (arith, lacks b k b_small (Has-lt a k a_small in_a), bit_at-Has b k in_b, ones.1))

pub Has-minus : (a b : Caps) (k : ℕ) → a.0 < 2 ^ 16 → b.0 < 2 ^ 16 → Has (minus a b) k ↔ (Has a k × ¬ (Has b k))
Has-minus a b k a_small b_small = (
  minus-Has a b k a_small b_small,
  λ has. elim (cases_lt (bit_at b.0 k) 1) [
    | inl low ↦ Has-bit_at (minus a b) k
        (both_back (bit_at a.0 k) (bit_at (65535 - b.0) k) _ (bit_at_and a.0 (65535 - b.0) k) (bit_at-Has a k has.0)
        (omega (arith, lacks b k b_small (Has-lt a k a_small has.0))))
    | inr high ↦ absurd (has.1 (Has-bit_at b k (omega (arith, bit_at-lt b.0 k))))
  ],
)

-- ---- sets with the same bits

same_bit : (x y : ℕ) → x < 2 → y < 2 → (x ≡ 1 → y ≡ 1) → (y ≡ 1 → x ≡ 1) → x ≡ y
same_bit zero zero xs ys f g = refl
same_bit zero (suc y) xs ys f g = absurd (let e : zero ≡ 1 = g (omega arith) in omega arith)
same_bit (suc x) zero xs ys f g = absurd (let e : zero ≡ 1 = f (omega arith) in omega arith)
same_bit (suc x) (suc y) xs ys f g = omega arith

pub same_number : (a b : Caps) → a.0 ≡ b.0 → a ≡ b
same_number a b e = ap (λ (n : ℕ). let c : Caps = record { 0 = n } in c) e

-- sets with the same bits are equal
pub same_members : (a b : Caps) → ((k : ℕ) → Has a k ↔ Has b k) → a ≡ b
same_members a b same =
    same_number a b
    (same_from_bits a.0 b.0
    (λ k. same_bit (bit_at a.0 k) (bit_at b.0 k) (bit_at-lt a.0 k) (bit_at-lt b.0 k)
    (λ one. bit_at-Has b k ((same k).0 (Has-bit_at a k one)))
    (λ one. bit_at-Has a k ((same k).1 (Has-bit_at b k one)))))

-- ---- tests

-- a covers b exactly where what they share is b
pub covers-meet : (a b : Caps) → (covers a b ≡ true) ↔ (meet a b ≡ b)
covers-meet a b = (
  λ yes. same_number (meet a b) b ((Decides-eqb (bit_and a.0 b.0) b.0).0 yes),
  λ same. (Decides-eqb (bit_and a.0 b.0) b.0).1 (ap (λ (c : Caps). c.0) same),
)

-- a covers b exactly where it has each bit of b
pub covers-Has : (a b : Caps) → (covers a b ≡ true) ↔ ((k : ℕ) → Has b k → Has a k)
covers-Has a b = (
  λ yes k has. let P : Caps → Type 0 = λ c. Has c k in ((Has-meet a b k).0 (subst P (sym ((covers-meet a b).0 yes)) has)).0,
  λ each. (covers-meet a b).1
      (same_members (meet a b) b (λ k. (λ has. ((Has-meet a b k).0 has).1, λ has. (Has-meet a b k).1 (each k has, has)))),
)

pub no_member : (k : ℕ) → ¬ (Has no_caps k)
no_member k has = omega (arith, bit_at-zero k, bit_at-Has no_caps k has)

-- the empty set is the one without a bit
pub is_empty-Has : (c : Caps) → (is_empty c ≡ true) ↔ ((k : ℕ) → ¬ (Has c k))
is_empty-Has c = (
  λ yes k. let P : Caps → Type 0 = λ s. ¬ (Has s k) in subst P (sym (same_number c no_caps ((Decides-eqb c.0 0).0 yes))) (no_member k),
  λ none. (Decides-eqb c.0 0).1
      (ap (λ (s : Caps). s.0) (same_members c no_caps (λ k. (λ has. absurd (none k has), λ has. absurd (no_member k has))))),
)

-- the capabilities stand at the places 0 and 2 to 15
pub every_cap-Has : (k : ℕ) → Has every_cap k ↔ ((k < 16) × (k ≢ 1))
every_cap-Has k = (
  λ has. (
    Has-lt every_cap k (lit< tt) has,
    λ one. let P : ℕ → Type 0 = λ n. bit_at 65533 n ≡ 1 in absurd (cc (subst P one (bit_at-Has every_cap k has))),
  ),
  λ place. Has-bit_at every_cap k
      (omega (arith, bit_at_not w16 2 k (lit< tt) place.0, bit_at-pow_other 1 k place.1)),
)

pub fits-Has : (c : Caps) → (fits c ≡ true) ↔ ((k : ℕ) → Has c k → (k < 16) × (k ≢ 1))
fits-Has c = (
  λ yes k has. (every_cap-Has k).0 ((covers-Has every_cap c).0 yes k has),
  λ each. (covers-Has every_cap c).1 (λ k has. (every_cap-Has k).1 (each k has)),
)
