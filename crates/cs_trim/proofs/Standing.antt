-- Standing snapshots in a span.
use Rattle.std.proofs.Common.{◌≡◌, ◌∙◌, refl, sym, ap, ℕ, zero, suc, ◌+◌, ◌-◌, ◌<◌, ◌≤◌, ◌||◌, Bool, true, false, List, arith, inl, inr}
use Rattle.std.proofs.lemmas.Bool.{cases_lt}
use Rattle.std.proofs.lemmas.Grind.{common_steps}
use Rattle.cs_trim.specs.declared.numbers.SnapStatus.{SnapStatus}
use Rattle.cs_trim.specs.declared.object.Span.{Span}
use Rattle.cs_trim.specs.Clones.{any_standing, has, is_standing, serves}
use Rattle.cs_trim.specs.Steps.{Step, status}

or_true : (b : Bool) → (b || true) ≡ true
or_true true = refl
or_true false = refl

-- one number more in front
in_front : (f : ℕ → SnapStatus) (above last n : ℕ) → last - above ≡ suc n
    → any_standing f above (last - above) ≡ (is_standing (f (above + 1)) || any_standing f (above + 1) (last - (above + 1)))
in_front f above last n is =
    let less : last - (above + 1) ≡ n = omega (arith, is) in
    ap (any_standing f above) is ∙ ap (λ k. is_standing (f (above + 1)) || any_standing f (above + 1) k) (sym less)

pub stands_here : (f : ℕ → SnapStatus) (above last : ℕ) → above < last → is_standing (f (above + 1)) ≡ true → any_standing f above (last - above) ≡ true
stands_here f above last less is =
    let more : last - above ≡ suc (last - above - 1) = omega (arith, less) in
    in_front f above last (last - above - 1) more ∙ ap (λ b. b || any_standing f (above + 1) (last - (above + 1))) is

pub stands_later : (f : ℕ → SnapStatus) (above last : ℕ) → above < last → is_standing (f (above + 1)) ≡ false
    → any_standing f above (last - above) ≡ any_standing f (above + 1) (last - (above + 1))
stands_later f above last less is =
    let more : last - above ≡ suc (last - above - 1) = omega (arith, less) in
    in_front f above last (last - above - 1) more ∙ ap (λ b. b || any_standing f (above + 1) (last - (above + 1))) is

pub none_left : (f : ℕ → SnapStatus) (above last : ℕ) → last ≤ above → any_standing f above (last - above) ≡ false
none_left f above last less =
    let none : last - above ≡ 0 = omega (arith, less) in
    ap (any_standing f above) none

-- the same of two equal lists of statuses
pub any_same : (f g : ℕ → SnapStatus) → ((n : ℕ) → f n ≡ g n) → (above count : ℕ) → any_standing f above count ≡ any_standing g above count
any_same f g same above zero = refl
any_same f g same above (suc count) =
    ap (λ s. is_standing s || any_standing f (above + 1) count) (same (above + 1))
    ∙ ap (λ b. is_standing (g (above + 1)) || b) (any_same f g same (above + 1) count)

any_has : (f : ℕ → SnapStatus) (above count n : ℕ) → above < n → n ≤ above + count → is_standing (f n) ≡ true → any_standing f above count ≡ true
any_has f above zero n low high stands = absurd (omega (arith, low, high))
any_has f above (suc count) n low high stands = elim (cases_lt (above + 1) n) [
  | inl more ↦
      ap (λ b. is_standing (f (above + 1)) || b) (any_has f (above + 1) count n more (omega (arith, high)) stands) ∙ or_true (is_standing (f (above + 1)))
  | inr less ↦
      let here : n ≡ above + 1 = omega (arith, low, less) in
      let first : is_standing (f (above + 1)) ≡ true = rw here at stands in
      ap (λ b. b || any_standing f (above + 1) count) first
]

pub above_of_has : (n : ℕ) (k : Span) → has n k ≡ true → k.above < n
above_of_has n k is = grind (arith, common_steps, is)

pub upto_of_has : (n : ℕ) (k : Span) → has n k ≡ true → n ≤ k.upto
upto_of_has n k is = grind (arith, common_steps, is)

-- a clone serves each standing snapshot of its span
pub serves_has : (h : List Step) (n : ℕ) (k : Span) → is_standing (status h n) ≡ true → has n k ≡ true → serves h k ≡ true
serves_has h n k stands is =
    let low = above_of_has n k is in
    let high = upto_of_has n k is in
    any_has (status h) k.above (k.upto - k.above) n low (omega (arith, low, high)) stands
