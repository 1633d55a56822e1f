-- How long texts are.
use Rattle.std.proofs.Common.{◌≡◌, ℕ, ◌+◌, ◌/◌, ◌%◌, ◌^◌, ◌≤◌, ◌<◌, Bool, true, false, cond, ◌&&◌, nat_le, List, [], ◌∷◌, ◌++◌, length, map, filter, codes, decimal, arith, length-append}
use Rattle.std.specs.List.{list_all}
use Rattle.std.proofs.lemmas.Bool.{and_parts, leb-true}
use Rattle.std.proofs.lemmas.Fmt.{length-decimal-le}
use Rattle.cs_ids.specs.Names.{is_letter_or_digit, is_name_byte, is_name}
use Rattle.cs_bits.specs.declared.Caps.{Caps}
use Rattle.cs_bits.specs.Bits.{Letters, covers, letters_of, behind, or_dash, spelled, caps_text, pin_letters, auth_letters, link_letters, xattr_letters, file_letters}
use Rattle.cs_text.specs.Hex.{hex_text}
use Rattle.cs_laws.specs.declared.events.RefName.{RefName}
use Rattle.cs_laws.specs.declared.events.RefName.TheVariants as names
use Rattle.cs_laws.specs.declared.objects.At.{At}
use Rattle.cs_laws.specs.declared.objects.At.TheVariants as at
use Rattle.cs_laws.specs.Fits.{is_mode}
use Rattle.cs_laws.specs.Texts.{name_text, at_text, mode_text}
use Rattle.cs_script.specs.Spelling.{IsName, IsAt}

pub decimal_few : (n : ℕ) → n < 2 ^ 64 → length (decimal n) ≤ 20
decimal_few n small = length-decimal-le 20 n (omega arith) (omega arith) small

pub name_few : (r : RefName) → IsName r → length (name_text r) ≤ 21
name_few (names.Own n) h = omega (arith, decimal_few n (omega arith))
name_few (names.Kept n) h = omega (arith, decimal_few n (omega arith))

pub at_few : (a : At) → IsAt a → length (at_text a) ≤ 20
at_few at.Head h = omega arith
at_few (at.Snap s) h = decimal_few s (omega arith)

pub mode_few : (m : ℕ) → is_mode m ≡ true → length (mode_text m) ≤ 80
mode_few m fit =
    let small = leb-true m 4095 fit in
    simp length-append (omega (
      arith,
      decimal_few (m / 512) (omega arith),
      decimal_few (m / 64 % 8) (omega arith),
      decimal_few (m / 8 % 8) (omega arith),
      decimal_few (m % 8) (omega arith),
    ))

-- a snapshot's name has at most 32 bytes
pub entry_name_few : (n : List ℕ) → is_name n ≡ true → length n ≤ 32
entry_name_few [] h = omega arith
entry_name_few (c ∷ cs) h =
    let parts = and_parts (is_letter_or_digit c) (nat_le (length cs) 31 && list_all is_name_byte cs) h in
    let few = leb-true (length cs) 31 (and_parts (nat_le (length cs) 31) (list_all is_name_byte cs) parts.1).0 in
    omega arith

pub hex_few : (bs : List ℕ) → length (hex_text bs) ≤ length bs + length bs
hex_few [] = omega arith
hex_few (b ∷ bs) = omega (arith, hex_few bs)

kept_few : (p : ℕ × Caps → Bool) (l : ℕ × Caps) (ls : Letters) (b : Bool) → length (map (λ (m : ℕ × Caps). m.0) (filter p ls)) ≤ length ls
    → length (map (λ (m : ℕ × Caps). m.0) (cond b (l ∷ filter p ls) (filter p ls))) ≤ length ls + 1
kept_few p l ls true more = omega (arith, more)
kept_few p l ls false more = omega (arith, more)

letters_few : (c : Caps) (ls : Letters) → length (letters_of c ls) ≤ length ls
letters_few c [] = omega arith
letters_few c (l ∷ ls) = omega (arith, kept_few (λ m. covers c m.1) l ls (covers c l.1) (letters_few c ls))

behind_few : (capital : ℕ) (ls : List ℕ) → length (behind (capital ∷ []) ls) ≤ length ls + 1
behind_few capital [] = omega arith
behind_few capital (l ∷ ls) = omega arith

dash_few : (w : List ℕ) → length (or_dash w) ≤ length w + 1
dash_few [] = omega arith
dash_few (b ∷ bs) = omega arith

five : (p a l x f : List ℕ) → length p ≤ 1 → length a ≤ 3 → length l ≤ 3 → length x ≤ 3 → length f ≤ 9 → length ((((p ++ a) ++ l) ++ x) ++ f) ≤ 19
five p a l x f one two three four nine = simp length-append (omega arith)

group_few : (c : Caps) (capital : ℕ) (ls : Letters) → length (behind (capital ∷ []) (letters_of c ls)) ≤ length ls + 1
group_few c capital ls = omega (arith, behind_few capital (letters_of c ls), letters_few c ls)

spelled_few : (c : Caps) → length (spelled c) ≤ 19
spelled_few c =
    five (letters_of c pin_letters) (behind (codes "A") (letters_of c auth_letters)) (behind (codes "L") (letters_of c link_letters))
    (behind (codes "X") (letters_of c xattr_letters))
    (behind (codes "F") (letters_of c file_letters))
    (letters_few c pin_letters)
    (group_few c 65 auth_letters)
    (group_few c 76 link_letters)
    (group_few c 88 xattr_letters)
    (group_few c 70 file_letters)

pub caps_few : (c : Caps) → length (caps_text c) ≤ 20
unfolding caps_text
caps_few c = omega (arith, dash_few (spelled c), spelled_few c)
