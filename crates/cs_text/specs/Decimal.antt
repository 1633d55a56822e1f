-- Decimal numbers: digits with no sign and no leading zero.
use Rattle.std.specs.Prelude.{ℕ, ◌+◌, ◌-◌, ◌*◌, ◌^◌, ◌==◌, ◌&&◌, Bool, false, not, nat_lt, List, [], ◌∷◌, if◌then◌else◌}
use Rattle.std.specs.Char.{is_ascii_digit}
use Rattle.std.specs.Str.{all_ascii_digits}
use Rattle.cs_text.specs.declared.numbers.Dec.{Dec}
use Rattle.cs_text.specs.declared.numbers.Dec.TheVariants as dec

-- digits, the first of which is no zero where more follow
abbrev pub is_decimal : List ℕ → Bool
is_decimal [] = false
is_decimal (c ∷ []) = is_ascii_digit c
is_decimal (c ∷ d ∷ cs) = is_ascii_digit c && (not (c == 48) && all_ascii_digits (d ∷ cs))

-- the number that more digits make of the number before them
abbrev pub value_from : ℕ → List ℕ → ℕ
value_from n [] = n
value_from n (c ∷ cs) = value_from (n * 10 + (c - 48)) cs

-- the number that digits spell
abbrev pub value : List ℕ → ℕ
value w = value_from 0 w

-- what a word is read as: `Shape` where it is no decimal number, `Big` where it is above every u64
abbrev pub dec_of : List ℕ → Dec
dec_of w = if is_decimal w then (if nat_lt (value w) (2 ^ 64) then dec.Value (value w) else dec.Big) else dec.Shape
