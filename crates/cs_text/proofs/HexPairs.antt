-- Pairs of hex digits, read and written.
use Rattle.std.proofs.Common.{◌≡◌, ◌∙◌, sym, ap, refl, ℕ, zero, suc, ◌+◌, ◌*◌, ◌/◌, ◌%◌, ◌<◌, ◌==◌, Bool, true, false, ◌&&◌, List, [], ◌∷◌, ◌++◌, length, slice_index, cond, Option, Some, None, Result, Ok, Err, arith, ◌⊎◌, inl, inr}
use Rattle.std.specs.Prelude.{All, option_map}
use Rattle.std.specs.List.{list_all}
use Rattle.std.specs.Str.{IsAscii, IsUtf8}
use Rattle.std.proofs.lemmas.Bool.{and_parts, cases_eq, cases_lt, eqb-true}
use Rattle.std.proofs.lemmas.Bool.Decides.{nat_tests}
use Rattle.std.proofs.lemmas.List.Elements.{All-head, All-tail}
use Rattle.std.proofs.lemmas.Str.{IsUtf8-from_ascii}
use Rattle.std.proofs.lemmas.Str.Ascii.{IsAscii-nil, IsAscii-cons}
use Rattle.hex.specs.Hex.{IsBytes, decode_of, decode_pairs, digit_or_error, encode_lower, encode_with, hex_digit_value, lower_digits, pair_value, value_at}
use Rattle.hex.specs.declared.error.FromHexError.{FromHexError}
use Rattle.hex.specs.declared.error.FromHexError.TheVariants.{OddLength}
use Rattle.hex.proofs.HexLemmas.{decode_of-odd}
use Rattle.hex.proofs.Pairs.{cons_byte, decode_pairs-ok_pair}
use Rattle.cs_text.specs.Hex.{hex_text, hex_digit, is_hex_digit, hex_value, bytes_of_hex}

-- a test that holds below n
abbrev all_below : (ℕ → Bool) → ℕ → Bool
all_below p zero = true
all_below p (suc n) = p n && all_below p n

all_below-at : (p : ℕ → Bool) (n k : ℕ) → all_below p n ≡ true → k < n → p k ≡ true
all_below-at p zero k h lt = absurd (omega arith)
all_below-at p (suc n) k h lt =
    let parts = and_parts (p n) (all_below p n) h in
    elim (cases_lt k n) [
      | inl below ↦ all_below-at p n k parts.1 below
      | inr top ↦
          let e : k ≡ n = omega arith in
          rw e parts.0
    ]

-- the kit's table has these digits
digit_in_table : (n : ℕ) → n < 16 → slice_index lower_digits n ≡ hex_digit n
digit_in_table n h =
    eqb-true (slice_index lower_digits n) (hex_digit n)
    (all_below-at (λ k. slice_index lower_digits k == hex_digit k) 16 n refl h)

-- the kit writes bytes so
pub hex_text-encode : (bs : List ℕ) → IsBytes bs → encode_lower bs ≡ hex_text bs
unfolding encode_with
hex_text-encode [] h = refl
hex_text-encode (b ∷ bs) h =
    let small : b < 256 = h 0 in
    let high : slice_index lower_digits (b / 16) ≡ hex_digit (b / 16) = digit_in_table (b / 16) (omega arith) in
    let low : slice_index lower_digits (b % 16) ≡ hex_digit (b % 16) = digit_in_table (b % 16) (omega arith) in
    let rest = hex_text-encode bs (λ k. h (suc k)) in
    cc

-- ---- digits

is_hex_digit-digit : (n : ℕ) → n < 16 → is_hex_digit (hex_digit n) ≡ true
is_hex_digit-digit n h = all_below-at (λ k. is_hex_digit (hex_digit k)) 16 n refl h

hex_value-digit : (n : ℕ) → n < 16 → hex_value (hex_digit n) ≡ n
hex_value-digit n h = eqb-true (hex_value (hex_digit n)) n (all_below-at (λ k. hex_value (hex_digit k) == k) 16 n refl h)

-- a digit's value, and the digit of it
hex_value-small : (c : ℕ) → is_hex_digit c ≡ true → hex_value c < 16
hex_value-small c h = grind (arith, nat_tests)

hex_digit-value : (c : ℕ) → is_hex_digit c ≡ true → hex_digit (hex_value c) ≡ c
hex_digit-value c h = grind (arith, nat_tests)

-- the kit reads a digit so
kit_value : (c : ℕ) → is_hex_digit c ≡ true → hex_digit_value c ≡ Some (hex_value c)
kit_value c h = grind (arith, nat_tests)

-- ---- reading

-- the byte of two digits
abbrev pair : ℕ → ℕ → ℕ
pair c d = hex_value c * 16 + hex_value d

-- both digits, and a byte in front of the rest
pair_in_front : (t : Bool) (v : ℕ) (o : Option (List ℕ)) → t ≡ true
    → cond t (option_map (λ bs. v ∷ bs) o) None ≡ option_map (λ bs. v ∷ bs) o
pair_in_front true v o h = refl
pair_in_front false v o h = cc h

both : (a b : Bool) → a ≡ true → b ≡ true → (a && b) ≡ true
both true b h g = g
both false b h g = cc h

bytes_of_hex-pair : (c d : ℕ) (cs : List ℕ) → is_hex_digit c ≡ true → is_hex_digit d ≡ true
    → bytes_of_hex (c ∷ d ∷ cs) ≡ option_map (λ bs. pair c d ∷ bs) (bytes_of_hex cs)
bytes_of_hex-pair c d cs h g =
    pair_in_front (is_hex_digit c && is_hex_digit d) (pair c d) (bytes_of_hex cs)
    (both (is_hex_digit c) (is_hex_digit d) h g)

-- no pair in front of the rest, or nothing behind it
no_pair : (t : Bool) (v : ℕ) (o : Option (List ℕ)) → (t ≡ false) ⊎ (o ≡ None)
    → cond t (option_map (λ bs. v ∷ bs) o) None ≡ None
no_pair t v o (inl h) = rw h refl
no_pair true v o (inr h) = rw h refl
no_pair false v o (inr h) = refl

-- an odd number of digits spells nothing
bytes_of_hex-odd : (w : List ℕ) → length w % 2 ≡ 1 → bytes_of_hex w ≡ None
bytes_of_hex-odd [] odd = absurd (omega arith)
bytes_of_hex-odd (c ∷ []) odd = refl
bytes_of_hex-odd (c ∷ d ∷ cs) odd =
    no_pair (is_hex_digit c && is_hex_digit d) (pair c d) (bytes_of_hex cs) (inr (bytes_of_hex-odd cs (omega arith)))

-- another byte among the digits
other_first : (a b r : Bool) → (a && (b && r)) ≡ false → ((a && b) ≡ false) ⊎ (r ≡ false)
other_first false b r h = inl refl
other_first true false r h = inl refl
other_first true true r h = inr h

pub bytes_of_hex-other : (w : List ℕ) → list_all is_hex_digit w ≡ false → bytes_of_hex w ≡ None
bytes_of_hex-other [] h = cc h
bytes_of_hex-other (c ∷ []) h = refl
bytes_of_hex-other (c ∷ d ∷ cs) h =
    elim (other_first (is_hex_digit c) (is_hex_digit d) (list_all is_hex_digit cs) h) [
      | inl here ↦ no_pair (is_hex_digit c && is_hex_digit d) (pair c d) (bytes_of_hex cs) (inl here)
      | inr behind ↦
          no_pair (is_hex_digit c && is_hex_digit d) (pair c d) (bytes_of_hex cs) (inr (bytes_of_hex-other cs behind))
    ]

-- the kit's answer says which bytes these are
abbrev pub ReadsSame : Result (List ℕ) FromHexError → Option (List ℕ) → Type 0
ReadsSame (Ok bs) o = o ≡ Some bs
ReadsSame (Err e) o = o ≡ None

same_in_front : (v : ℕ) (r : Result (List ℕ) FromHexError) (o : Option (List ℕ)) → ReadsSame r o
    → ReadsSame (cons_byte v r) (option_map (λ bs. v ∷ bs) o)
same_in_front v (Ok bs) o h = rw h refl
same_in_front v (Err e) o h = rw h refl

same_along : (r s : Result (List ℕ) FromHexError) (o p : Option (List ℕ)) → r ≡ s → o ≡ p → ReadsSame s p → ReadsSame r o
same_along r s o p e f h = rw (e, f) h

decode_pairs-nil : (i : ℕ) → decode_pairs i [] ≡ Ok []
unfolding decode_pairs
decode_pairs-nil i = refl

decode_pairs-one : (i c : ℕ) → decode_pairs i (c ∷ []) ≡ Err OddLength
unfolding decode_pairs
decode_pairs-one i c = refl

pair_value-digits : (c d i : ℕ) → is_hex_digit c ≡ true → is_hex_digit d ≡ true → pair_value c d i ≡ Ok (pair c d)
pair_value-digits c d i h g =
    let high : value_at c i ≡ Ok (hex_value c) = ap (digit_or_error c i) (kit_value c h) in
    let low : value_at d (i + 1) ≡ Ok (hex_value d) = ap (digit_or_error d (i + 1)) (kit_value d g) in
    rw (high, low) refl

decode_pairs-same : (i : ℕ) (w : List ℕ) → list_all is_hex_digit w ≡ true → ReadsSame (decode_pairs i w) (bytes_of_hex w)
decode_pairs-same i [] h = rw decode_pairs-nil refl
decode_pairs-same i (c ∷ []) h = rw decode_pairs-one refl
decode_pairs-same i (c ∷ d ∷ cs) h =
    let first = and_parts (is_hex_digit c) (list_all is_hex_digit (d ∷ cs)) h in
    let second = and_parts (is_hex_digit d) (list_all is_hex_digit cs) first.1 in
    same_along _ _ _ _
    (decode_pairs-ok_pair i c d (pair c d) cs (pair_value-digits c d i first.0 second.0))
    (bytes_of_hex-pair c d cs first.0 second.0)
    (same_in_front (pair c d) (decode_pairs (i + 2) cs) (bytes_of_hex cs) (decode_pairs-same (i + 2) cs second.1))

decode_of-even : (w : List ℕ) → length w % 2 ≡ 0 → decode_of w ≡ decode_pairs 0 w
decode_of-even w even = grind arith

-- the kit reads lower-case digits so
pub decode_of-same : (w : List ℕ) (r : Result (List ℕ) FromHexError) → list_all is_hex_digit w ≡ true → decode_of w ≡ r
    → ReadsSame r (bytes_of_hex w)
decode_of-same w r h e =
    elim (cases_eq (length w % 2) 1) [
      | inl odd ↦ same_along _ _ _ _ (sym e ∙ decode_of-odd w odd) (bytes_of_hex-odd w odd) refl
      | inr even ↦ same_along _ _ _ _ (sym e ∙ decode_of-even w (omega arith)) refl (decode_pairs-same 0 w h)
    ]

-- ---- both ways

-- what is written of bytes is read as these bytes
pub bytes_of_hex-text : (bs : List ℕ) → All (λ b. b < 256) bs → bytes_of_hex (hex_text bs) ≡ Some bs
bytes_of_hex-text [] h = refl
bytes_of_hex-text (b ∷ bs) h =
    let small : b < 256 = All-head (λ k. k < 256) b bs h in
    let rest = bytes_of_hex-text bs (All-tail (λ k. k < 256) b bs h) in
    let high : hex_value (hex_digit (b / 16)) ≡ b / 16 = hex_value-digit (b / 16) (omega arith) in
    let low : hex_value (hex_digit (b % 16)) ≡ b % 16 = hex_value-digit (b % 16) (omega arith) in
    let byte : pair (hex_digit (b / 16)) (hex_digit (b % 16)) ≡ b = omega (arith, high, low) in
    bytes_of_hex-pair (hex_digit (b / 16)) (hex_digit (b % 16)) (hex_text bs)
    (is_hex_digit-digit (b / 16) (omega arith)) (is_hex_digit-digit (b % 16) (omega arith))
    ∙ (ap (option_map (λ cs. pair (hex_digit (b / 16)) (hex_digit (b % 16)) ∷ cs)) rest
    ∙ ap (λ v. Some (v ∷ bs)) byte)

-- what a pair in front of the rest spells
pair_spells : (t : Bool) (v : ℕ) (o : Option (List ℕ)) (bs : List ℕ) → cond t (option_map (λ cs. v ∷ cs) o) None ≡ Some bs
    → (t ≡ true) × ((rest : List ℕ) × (o ≡ Some rest) × (bs ≡ v ∷ rest))
pair_spells false v o bs h = cc h
pair_spells true v None bs h = cc h
pair_spells true v (Some rest) bs h = (refl, (rest, refl, cc (sym h)))

-- no other text is read as these bytes
pub hex_text-bytes : (w bs : List ℕ) → bytes_of_hex w ≡ Some bs → hex_text bs ≡ w
hex_text-bytes [] bs h = let e : bs ≡ [] = cc (sym h) in rw e refl
hex_text-bytes (c ∷ []) bs h = cc h
hex_text-bytes (c ∷ d ∷ cs) bs h =
    let spelt = pair_spells (is_hex_digit c && is_hex_digit d) (pair c d) (bytes_of_hex cs) bs h in
    let digits = and_parts (is_hex_digit c) (is_hex_digit d) spelt.0 in
    let small = hex_value-small d digits.1 in
    let high : pair c d / 16 ≡ hex_value c = omega (arith, small) in
    let low : pair c d % 16 ≡ hex_value d = omega (arith, small) in
    let rest = hex_text-bytes cs spelt.1.0 spelt.1.1 in
    let first : hex_digit (pair c d / 16) ≡ c = ap hex_digit high ∙ hex_digit-value c digits.0 in
    let second : hex_digit (pair c d % 16) ≡ d = ap hex_digit low ∙ hex_digit-value d digits.1 in
    rw spelt.1.2 (ap (λ x. x ∷ hex_digit (pair c d % 16) ∷ hex_text spelt.1.0) first
    ∙ (ap (λ x. c ∷ x ∷ hex_text spelt.1.0) second ∙ ap (λ x. c ∷ d ∷ x) rest))

-- ---- printing

pub hex_text-append : (bs cs : List ℕ) → hex_text (bs ++ cs) ≡ hex_text bs ++ hex_text cs
hex_text-append [] cs = refl
hex_text-append (b ∷ bs) cs = ap (λ ds. hex_digit (b / 16) ∷ hex_digit (b % 16) ∷ ds) (hex_text-append bs cs)

digit_is_ascii : (n : ℕ) → n < 16 → hex_digit n < 128
digit_is_ascii n h = grind (arith, nat_tests)

-- the text is ASCII, and so it is UTF-8
IsAscii-hex : (bs : List ℕ) → IsBytes bs → IsAscii (hex_text bs)
IsAscii-hex [] h = IsAscii-nil
IsAscii-hex (b ∷ bs) h =
    let small : b < 256 = h 0 in
    IsAscii-cons (hex_digit (b / 16)) (hex_digit (b % 16) ∷ hex_text bs) (digit_is_ascii (b / 16) (omega arith))
    (IsAscii-cons (hex_digit (b % 16)) (hex_text bs) (digit_is_ascii (b % 16) (omega arith)) (IsAscii-hex bs (λ k. h (suc k))))

pub IsUtf8-hex : (bs : List ℕ) → IsBytes bs → IsUtf8 (hex_text bs)
IsUtf8-hex bs h = IsUtf8-from_ascii (hex_text bs) (IsAscii-hex bs h)
