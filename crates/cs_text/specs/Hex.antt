-- Bytes as pairs of lower-case hex digits.
use Rattle.std.specs.Prelude.{ℕ, ◌+◌, ◌-◌, ◌*◌, ◌/◌, ◌%◌, ◌&&◌, ◌||◌, nat_lt, nat_le, Bool, if◌then◌else◌, List, [], ◌∷◌, Option, Some, None, option_map}

-- the digit of a number below 16: `0` to `9`, `a` to `f`
abbrev pub hex_digit : ℕ → ℕ
hex_digit n = if nat_lt n 10 then 48 + n else 87 + n

-- two digits for each byte, the high one first
abbrev pub hex_text : List ℕ → List ℕ
hex_text [] = []
hex_text (b ∷ bs) = hex_digit (b / 16) ∷ hex_digit (b % 16) ∷ hex_text bs

-- `0` to `9`, `a` to `f`
abbrev pub is_hex_digit : ℕ → Bool
is_hex_digit c = (nat_le 48 c && nat_le c 57) || (nat_le 97 c && nat_le c 102)

-- the number that a digit stands for
abbrev pub hex_value : ℕ → ℕ
hex_value c = if nat_le c 57 then c - 48 else c - 87

-- the bytes that pairs of digits spell, where it is pairs of digits
abbrev pub bytes_of_hex : List ℕ → Option (List ℕ)
bytes_of_hex [] = Some []
bytes_of_hex (c ∷ []) = None
bytes_of_hex (c ∷ d ∷ cs) =
    if is_hex_digit c && is_hex_digit d
    then option_map (λ bs. (hex_value c * 16 + hex_value d) ∷ bs) (bytes_of_hex cs)
    else None
