-- Decimal numbers, read and written.
use Rattle.std.proofs.Common.{rules, ◌≡◌, ◌∙◌, sym, ap, refl, ℕ, ◌^◌, ◌<◌, ◌≤◌, Bool, true, false, ◌&&◌, List, [], ◌∷◌, length, get_or, Result, Ok, Err, arith, decimal, ◌⊎◌, inl, inr}
use Rattle.std.proofs.lemmas.Bool.Decides.{nat_tests}
use Rattle.std.proofs.lemmas.Bool.{cases_lt}
use Rattle.std.proofs.lemmas.Fmt.{IsAscii-from_digits, decimal_digit, decimal_nonempty, first_decimal, digits_decimal, digits_value-decimal, decimal-digits_value}
use Rattle.std.proofs.lemmas.Str.{IsUtf8-from_ascii}
use Rattle.std.proofs.lemmas.Str.Parse.{IsNumeralModel, numerals_by_fold, parse_digits}
use Rattle.std.specs.Char.{is_ascii_digit}
use Rattle.std.specs.List.{list_all}
use Rattle.std.specs.Str.{all_ascii_digits, IsUtf8}
use Rattle.std.specs.Str.Parse.{ParsesUnsigned}
use Rattle.std.specs.Prelude.{MatchResult}
use Rattle.cs_text.specs.declared.numbers.Dec.TheVariants as dec
use Rattle.cs_text.specs.Decimal.{is_decimal, value, value_from, dec_of}

-- digits, and the number that they spell
pub own : IsNumeralModel (λ ds. all_ascii_digits ds ≡ true) value
own = numerals_by_fold _ (search rules) value_from (search rules)

pub list_all_digits : (w : List ℕ) → list_all is_ascii_digit w ≡ all_ascii_digits w
list_all_digits [] = refl
list_all_digits (c ∷ cs) = ap (λ b. is_ascii_digit c && b) (list_all_digits cs)

-- what a decimal number is
pub record IsDecimal (w : List ℕ) : Type 0 where
  pub digits : all_ascii_digits w ≡ true
  pub some : 0 < length w
  pub plain : get_or w 0 0 ≡ 48 → length w ≡ 1

pub decimal_has : (w : List ℕ) → is_decimal w ≡ true → IsDecimal w
decimal_has [] h = cc h
decimal_has (c ∷ []) h = record { digits = grind arith; some = omega arith; plain = λ _. refl }
decimal_has (c ∷ d ∷ cs) h = record { digits = grind arith; some = omega arith; plain = λ e. grind arith }

pub decimal_from : (w : List ℕ) → IsDecimal w → is_decimal w ≡ true
decimal_from [] h = absurd (omega (arith, h.some))
decimal_from (c ∷ []) h = grind (arith, h.digits)
decimal_from (c ∷ d ∷ cs) h = grind (arith, h.digits, h.plain)

cases_true : (b : Bool) → (b ≡ true) ⊎ (b ≡ false)
cases_true true = inl refl
cases_true false = inr refl

-- the number where it is a u64
pub dec_of-small : (w : List ℕ) → is_decimal w ≡ true → value w < 2 ^ 64 → dec_of w ≡ dec.Value (value w)
dec_of-small w h small = grind (arith, nat_tests)

pub dec_of-big : (w : List ℕ) → is_decimal w ≡ true → 2 ^ 64 ≤ value w → dec_of w ≡ dec.Big
dec_of-big w h big = grind (arith, nat_tests)

pub dec_of-other : (w : List ℕ) → is_decimal w ≡ false → dec_of w ≡ dec.Shape
dec_of-other w h = grind (arith, nat_tests)

-- digits are text
pub IsUtf8-decimal : (w : List ℕ) → is_decimal w ≡ true → IsUtf8 w
IsUtf8-decimal w h = IsUtf8-from_ascii w (IsAscii-from_digits w (own.to w (decimal_has w h).digits))

-- what `parse` answers for a decimal number
pub parsed : {E : Type 0} (w bs : List ℕ) (r : Result ℕ E) → bs ≡ w → is_decimal w ≡ true → ParsesUnsigned 64 10 bs r
    → MatchResult r (λ v. dec.Value v ≡ dec_of w) (λ e. dec.Big ≡ dec_of w)
parsed {E = E} w bs (Ok v) e h p =
    let read = parse_digits own {E = E} 64 w (Ok v) (rw e at p) (decimal_has w h).digits in
    rw read.1 (sym (dec_of-small w h read.0.1))
parsed {E = E} w bs (Err x) e h p =
    let read = parse_digits own {E = E} 64 w (Err x) (rw e at p) (decimal_has w h).digits in
    elim (cases_lt (value w) (2 ^ 64)) [
      | inl small ↦ absurd (read ((decimal_has w h).some, small))
      | inr big ↦ sym (dec_of-big w h big)
    ]

-- what is written of a number is a decimal number
pub decimal_written : (n : ℕ) → n < 2 ^ 64 → is_decimal (decimal n) ≡ true
decimal_written n small =
    decimal_from (decimal n) (record {
      digits = digits_decimal own n small;
      some = decimal_nonempty n small;
      plain = λ e.
          elim (cases_lt 0 n) [
            | inl above ↦ absurd (omega (arith, first_decimal n above small))
            | inr none ↦
                let zero : n ≡ 0 = omega arith in
                rw (zero, decimal_digit 0 (omega arith)) refl
          ];
    })

-- what is written of a number is read as that number
pub dec_of-decimal : (n : ℕ) → n < 2 ^ 64 → dec_of (decimal n) ≡ dec.Value n
dec_of-decimal n small =
    let same : value (decimal n) ≡ n = digits_value-decimal own n small in
    dec_of-small (decimal n) (decimal_written n small) (omega (arith, same)) ∙ ap dec.Value same

-- a number that is read
pub record IsRead (w : List ℕ) (n : ℕ) : Type 0 where
  pub decimal : is_decimal w ≡ true
  pub small : value w < 2 ^ 64
  pub same : value w ≡ n

pub read_has : (w : List ℕ) (n : ℕ) → dec_of w ≡ dec.Value n → IsRead w n
read_has w n h =
    elim (cases_true (is_decimal w)) [
      | inl digits ↦
          elim (cases_lt (value w) (2 ^ 64)) [
            | inl small ↦ record { decimal = digits; small = small; same = cc (sym (dec_of-small w digits small) ∙ h) }
            | inr big ↦ cc (sym (dec_of-big w digits big) ∙ h)
          ]
      | inr other ↦ cc (sym (dec_of-other w other) ∙ h)
    ]

-- no other text is read as a number than what is written of it
pub decimal-read : (w : List ℕ) (n : ℕ) → dec_of w ≡ dec.Value n → decimal n ≡ w
decimal-read w n h =
    let is = read_has w n h in
    let has = decimal_has w is.decimal in
    rw (← is.same) (decimal-digits_value own w has.digits has.some has.plain is.small)
