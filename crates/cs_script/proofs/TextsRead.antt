-- Each value in range is read back from its text.
use Rattle.std.proofs.Common.{◌≡◌, refl, ℕ, ◌^◌, ◌≤◌, ◌<◌, ◌==◌, Bool, true, false, ◌&&◌, nat_le, List, [], ◌∷◌, length, decimal, arith, Ok, Err, if◌then◌else◌}
use Rattle.std.specs.Str.{all_ascii_digits}
use Rattle.std.proofs.lemmas.Bool.{and_parts, leb-true}
use Rattle.std.proofs.lemmas.Bool.Decides.{nat_tests}
use Rattle.std.proofs.lemmas.Fmt.{digits_decimal, digits_value-decimal}
use Rattle.cs_ids.specs.Names.{is_name}
use Rattle.cs_bits.specs.declared.Caps.{Caps}
use Rattle.cs_bits.specs.Bits as sets
use Rattle.cs_bits.specs.Bits.{caps_text, caps_of}
use Rattle.cs_bits.proofs.Reading.{text_is_read}
use Rattle.cs_text.specs.Decimal.{is_decimal, value}
use Rattle.cs_text.specs.Hex.{hex_text, bytes_of_hex}
use Rattle.cs_text.proofs.Decimals.{own, decimal_written}
use Rattle.cs_text.proofs.HexPairs.{bytes_of_hex-text}
use Rattle.cs_laws.specs.declared.events.RefName.{RefName}
use Rattle.cs_laws.specs.declared.events.RefName.TheVariants as names
use Rattle.cs_laws.specs.declared.objects.At.{At}
use Rattle.cs_laws.specs.declared.objects.At.TheVariants as at
use Rattle.cs_laws.specs.declared.faults.Kind.TheVariants as kinds
use Rattle.cs_laws.specs.Fits.{is_built, is_state, most_written}
use Rattle.cs_laws.specs.Grammar.{number_in, set_of, name_of, bytes_of, name_in, at_in}
use Rattle.cs_laws.specs.Texts.{name_text, at_text}
use Rattle.cs_script.specs.Spelling.{IsBytes, IsName, IsAt}
use Rattle.cs_script.proofs.Written.{few_bytes}

pub within : (low high n : ℕ) → low ≤ n → n ≤ high → (nat_le low n && nat_le n high) ≡ true
within low high n l h = grind (arith, nat_tests)

number_by : (low high v n : ℕ) (d : Bool) → d ≡ true → v ≡ n → (nat_le low n && nat_le n high) ≡ true
    → (if d then (if nat_le low v && nat_le v high then Ok v else Err kinds.Range) else Err kinds.Number) ≡ Ok n
number_by low high v n d is same range = rw (is, same, range) refl

pub number_read : (low high n : ℕ) → n < 2 ^ 64 → low ≤ n → n ≤ high → number_in low high (decimal n) ≡ Ok n
number_read low high n small l h =
    number_by low high (value (decimal n)) n (is_decimal (decimal n)) (decimal_written n small) (digits_value-decimal own n small) (within low high n l h)

pub set_read : (bits : Caps) → is_built bits ≡ true → set_of (caps_of (caps_text bits)) ≡ Ok bits
set_read bits built =
    let fit = (and_parts (sets.fits bits) (sets.is_empty (sets.meet bits (sets.union sets.file_buffer sets.file_cache))) built).0 in
    rw (text_is_read bits fit, built) refl

-- digits don't begin with a `g`
own_read : (w : List ℕ) (n : ℕ) → all_ascii_digits w ≡ true → number_in 0 99999 w ≡ Ok n → name_of w ≡ Ok (names.Own n)
own_read [] n digits h = cc h
own_read (c ∷ cs) n digits h =
    let other : (c == 103) ≡ false = grind (arith, nat_tests) in
    rw (other, h) refl

pub name_read : (r : RefName) → IsName r → name_of (name_text r) ≡ Ok r
name_read (names.Own n) h = own_read (decimal n) n (digits_decimal own n (omega arith)) (number_read 0 99999 n (omega arith) h.0 h.1)
name_read (names.Kept n) h = rw (number_read 0 99999 n (omega arith) h.0 h.1) refl

pub bytes_read : (bs : List ℕ) → IsBytes bs → (nat_le 1 (length bs) && nat_le (length bs) most_written) ≡ true → bytes_of (bytes_of_hex (hex_text bs)) ≡ Ok bs
bytes_read bs bytes count =
    let parts = and_parts (nat_le 1 (length bs)) (nat_le (length bs) most_written) count in
    rw (bytes_of_hex-text bs bytes) (few_bytes bs (leb-true 1 (length bs) parts.0) (leb-true (length bs) most_written parts.1))

pub entry_name_read : (n : List ℕ) → is_name n ≡ true → name_in n ≡ Ok n
entry_name_read n h = rw h refl

-- digits don't begin with an `h`
snap_read : (w : List ℕ) (s : ℕ) → all_ascii_digits w ≡ true → number_in 1 99999 w ≡ Ok s → at_in w ≡ Ok (at.Snap s)
snap_read [] s digits h = cc h
snap_read (c ∷ cs) s digits h =
    let other : (c == 104) ≡ false = grind (arith, nat_tests) in
    rw (other, h) refl

pub at_read : (a : At) → IsAt a → is_state a ≡ true → at_in (at_text a) ≡ Ok a
at_read at.Head h state = refl
at_read (at.Snap s) h state = snap_read (decimal s) s (digits_decimal own s (omega arith)) (number_read 1 99999 s (omega arith) (leb-true 1 s state) h.1)
