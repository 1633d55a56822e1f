-- The bytes of a name are ASCII.
use Rattle.std.proofs.Common.{◌≡◌, ℕ, suc, zero, ◌<◌, true, List, [], ◌∷◌, ◌&&◌, length, nat_le, arith}
use Rattle.std.specs.List.{list_all}
use Rattle.std.specs.Str.{IsAscii}
use Rattle.std.proofs.lemmas.Bool.{and_parts}
use Rattle.std.proofs.lemmas.Bool.Decides.{nat_tests}
use Rattle.cs_ids.specs.Names.{is_letter_or_digit, is_name_byte, is_name}

letter_small : (c : ℕ) → is_letter_or_digit c ≡ true → c < 128
letter_small c t = grind (arith, nat_tests)

byte_small : (c : ℕ) → is_name_byte c ≡ true → c < 128
byte_small c t = grind (arith, nat_tests)

bytes_ascii : (cs : List ℕ) → list_all is_name_byte cs ≡ true → IsAscii cs
bytes_ascii [] t i = omega arith
bytes_ascii (c ∷ cs) t zero = byte_small c (and_parts (is_name_byte c) (list_all is_name_byte cs) t).0
bytes_ascii (c ∷ cs) t (suc i) = bytes_ascii cs (and_parts (is_name_byte c) (list_all is_name_byte cs) t).1 i

pub name_ascii : (cs : List ℕ) → is_name cs ≡ true → IsAscii cs
name_ascii [] t i = omega arith
name_ascii (c ∷ cs) t zero = letter_small c (and_parts (is_letter_or_digit c) (nat_le (length cs) 31 && list_all is_name_byte cs) t).0
name_ascii (c ∷ cs) t (suc i) =
    let rest = and_parts (is_letter_or_digit c) (nat_le (length cs) 31 && list_all is_name_byte cs) t in
    bytes_ascii cs (and_parts (nat_le (length cs) 31) (list_all is_name_byte cs) rest.1).1 i
