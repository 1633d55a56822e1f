-- The laws of sets that the texts' proofs use.
use Rattle.std.proofs.Common.{◌≡◌, ◌≢◌, ℕ, zero, suc, ◌*◌, ◌^◌, ◌<◌, true, false, sym, ap, ◌∙◌, arith, bit_and, bit_or}
use Rattle.std.specs.Int.{bit_at}
use Rattle.std.proofs.lemmas.Nat.Bits.{and_pow, bit_at-lt, bit_at_and, bit_at_or, bit_at-zero, same_from_bits}
use Rattle.cs_bits.specs.declared.Caps.{Caps}
use Rattle.cs_bits.specs.Bits.{union, meet, covers, no_caps}
use Rattle.cs_bits.proofs.Members.{same_number, covers-meet}

pub union_none_left : (a : Caps) → union no_caps a ≡ a
union_none_left a = same_number _ _ (same_from_bits (bit_or 0 a.0) a.0 (λ i. omega (arith, bit_at_or 0 a.0 i, bit_at-zero i)))

pub union_none : (a : Caps) → union a no_caps ≡ a
union_none a = same_number _ _ (same_from_bits (bit_or a.0 0) a.0 (λ i. omega (arith, bit_at_or a.0 0 i, bit_at-zero i)))

pub union_assoc : (a b c : Caps) → union (union a b) c ≡ union a (union b c)
union_assoc a b c =
    same_number _ _
    (same_from_bits (bit_or (bit_or a.0 b.0) c.0) (bit_or a.0 (bit_or b.0 c.0))
    (λ i. omega (arith, bit_at_or (bit_or a.0 b.0) c.0 i, bit_at_or a.0 b.0 i, bit_at_or a.0 (bit_or b.0 c.0) i, bit_at_or b.0 c.0 i)))

pub meet-union : (c a b : Caps) → meet c (union a b) ≡ union (meet c a) (meet c b)
meet-union c a b =
    same_number _ _
    (same_from_bits (bit_and c.0 (bit_or a.0 b.0)) (bit_or (bit_and c.0 a.0) (bit_and c.0 b.0))
    (λ i. omega (arith, bit_at_and c.0 (bit_or a.0 b.0) i, bit_at_or a.0 b.0 i, bit_at_or (bit_and c.0 a.0) (bit_and c.0 b.0) i, bit_at_and c.0 a.0 i, bit_at_and c.0 b.0 i)))

pub meet_none : (a : Caps) → meet a no_caps ≡ no_caps
meet_none a = same_number _ _ (same_from_bits (bit_and a.0 0) 0 (λ i. omega (arith, bit_at_and a.0 0 i, bit_at-zero i)))

pub meet_comm : (a b : Caps) → meet a b ≡ meet b a
meet_comm a b = same_number _ _ (same_from_bits (bit_and a.0 b.0) (bit_and b.0 a.0) (λ i. omega (arith, bit_at_and a.0 b.0 i, bit_at_and b.0 a.0 i)))

none_from_product : (b p v : ℕ) → b < 2 → v ≡ b * p → v ≢ p → v ≡ 0
none_from_product zero p v small e not_all = omega (arith, e)
none_from_product (suc zero) p v small e not_all = absurd (not_all (omega (arith, e)))
none_from_product (suc (suc b)) p v small e not_all = absurd (omega arith)

-- a set that does not have a capability shares nothing with it
pub meet_one : (c one : Caps) (place : ℕ) → one.0 ≡ 2 ^ place → covers c one ≡ false → meet c one ≡ no_caps
meet_one c one place bit lacking =
    same_number (meet c one) no_caps
    (ap (λ n. bit_and c.0 n) bit
    ∙ none_from_product (bit_at c.0 place) (2 ^ place) (bit_and c.0 (2 ^ place)) (bit_at-lt c.0 place) (and_pow c.0 place)
    (λ all. absurd
    (let yes : covers c one ≡ true = (covers-meet c one).1 (same_number (meet c one) one (ap (λ n. bit_and c.0 n) bit ∙ all ∙ sym bit)) in cc)))
