-- Modes, which four octal digits spell.
use Rattle.std.proofs.Common.{◌≡◌, ◌∙◌, ap, refl, ℕ, ◌+◌, ◌-◌, ◌*◌, ◌/◌, ◌%◌, ◌≤◌, ◌<◌, true, ◌&&◌, nat_le, List, [], ◌∷◌, arith, Ok}
use Rattle.std.proofs.lemmas.Bool.{and_parts, leb-true}
use Rattle.std.proofs.lemmas.Bool.Decides.{nat_tests}
use Rattle.std.proofs.lemmas.Fmt.{decimal_digit}
use Rattle.cs_laws.specs.declared.faults.Kind.TheVariants as kinds
use Rattle.cs_laws.specs.Fits.{is_mode}
use Rattle.cs_laws.specs.Grammar.{is_octal, mode_of_digits, mode_in}
use Rattle.cs_laws.specs.Texts.{mode_text}
use Rattle.cs_script.proofs.FieldFacts.{passed}
use Rattle.cs_script.proofs.Visible.{IsVisible, visible-append, decimal_visible}

pub mode_visible : (m : ℕ) → is_mode m ≡ true → IsVisible (mode_text m)
mode_visible m h =
    let small = leb-true m 4095 h in
    visible-append _ _
    (visible-append _ _
    (visible-append _ _ (decimal_visible (m / 512) (omega arith)) (decimal_visible (m / 64 % 8) (omega arith)))
    (decimal_visible (m / 8 % 8) (omega arith)))
    (decimal_visible (m % 8) (omega arith))

-- a mode's text is its digits
mode_digits : (m : ℕ) → m ≤ 4095 → mode_text m ≡ (48 + m / 512) ∷ (48 + m / 64 % 8) ∷ (48 + m / 8 % 8) ∷ (48 + m % 8) ∷ []
mode_digits m small =
    rw (
      decimal_digit (m / 512) (omega arith),
      decimal_digit (m / 64 % 8) (omega arith),
      decimal_digit (m / 8 % 8) (omega arith),
      decimal_digit (m % 8) (omega arith),
    ) refl

octal_digit : (n : ℕ) → n < 8 → is_octal (48 + n) ≡ true
octal_digit n small = grind (arith, nat_tests)

digits_read : (a b c d m : ℕ) → a < 8 → b < 8 → c < 8 → d < 8 → a * 512 + b * 64 + c * 8 + d ≡ m
    → mode_of_digits (48 + a) (48 + b) (48 + c) (48 + d) ≡ Ok m
digits_read a b c d m first second third last e =
    rw (octal_digit a first, octal_digit b second, octal_digit c third, octal_digit d last) (ap (λ n. Ok n) (omega arith))

pub mode_read : (m : ℕ) → is_mode m ≡ true → mode_in (mode_text m) ≡ Ok m
mode_read m h =
    let small = leb-true m 4095 h in
    ap mode_in (mode_digits m small)
    ∙ digits_read (m / 512) (m / 64 % 8) (m / 8 % 8) (m % 8) m (omega arith) (omega arith) (omega arith) (omega arith) (omega arith)

digit_range : (c : ℕ) → is_octal c ≡ true → (48 ≤ c) × (c ≤ 55)
digit_range c h =
    let parts = and_parts (nat_le 48 c) (nat_le c 55) h in
    (leb-true 48 c parts.0, leb-true c 55 parts.1)

text_of_digits : (a b c d m : ℕ) → (48 ≤ a) × (a ≤ 55) → (48 ≤ b) × (b ≤ 55) → (48 ≤ c) × (c ≤ 55) → (48 ≤ d) × (d ≤ 55)
    → m ≡ (a - 48) * 512 + (b - 48) * 64 + (c - 48) * 8 + (d - 48) → (mode_text m ≡ a ∷ b ∷ c ∷ d ∷ []) × (m ≤ 4095)
text_of_digits a b c d m in_a in_b in_c in_d e =
    let small : m ≤ 4095 = omega arith in
    let first : 48 + m / 512 ≡ a = omega arith in
    let second : 48 + m / 64 % 8 ≡ b = omega arith in
    let third : 48 + m / 8 % 8 ≡ c = omega arith in
    let last : 48 + m % 8 ≡ d = omega arith in
    (mode_digits m small ∙ rw (first, second, third, last) refl, small)

at_most : (m n : ℕ) → m ≤ n → nat_le m n ≡ true
at_most m n h = grind (arith, nat_tests)

digits_are_text : (a b c d m : ℕ) → mode_of_digits a b c d ≡ Ok m → (mode_text m ≡ a ∷ b ∷ c ∷ d ∷ []) × (m ≤ 4095)
digits_are_text a b c d m h =
    let p = passed (is_octal a && (is_octal b && (is_octal c && is_octal d))) ((a - 48) * 512 + (b - 48) * 64 + (c - 48) * 8 + (d - 48)) m kinds.Word h in
    let first = and_parts (is_octal a) (is_octal b && (is_octal c && is_octal d)) p.test in
    let second = and_parts (is_octal b) (is_octal c && is_octal d) first.1 in
    let third = and_parts (is_octal c) (is_octal d) second.1 in
    text_of_digits a b c d m (digit_range a first.0) (digit_range b second.0) (digit_range c third.0) (digit_range d third.1) p.same

-- a mode that is read has no other text
pub mode_is_text : (w : List ℕ) (m : ℕ) → mode_in w ≡ Ok m → (mode_text m ≡ w) × (is_mode m ≡ true)
mode_is_text [] m h = cc h
mode_is_text (a ∷ []) m h = cc h
mode_is_text (a ∷ b ∷ []) m h = cc h
mode_is_text (a ∷ b ∷ c ∷ []) m h = cc h
mode_is_text (a ∷ b ∷ c ∷ d ∷ []) m h =
    let t = digits_are_text a b c d m h in
    (t.0, at_most m 4095 t.1)
mode_is_text (a ∷ b ∷ c ∷ d ∷ e ∷ w) m h = cc h
