-- The codec of numbers, and of what is spelled as one: flags, and inodes that may be missing.
use Rattle.std.proofs.Common.{◌≡◌, refl, sym, ap, ◌∙◌, subst, ℕ, zero, suc, ◌^◌, ◌<◌, ◌≤◌, Bool, true, false, List, ◌++◌, length, take, drop, Option, Some, None, arith}
use Rattle.std.specs.Prelude.{nat_le, ◌&&◌, ◌==◌}
use Rattle.std.proofs.lemmas.Bool.{and_parts, le-leb, leb-true}
use Rattle.std.proofs.lemmas.List.{drop_at, take-append-drop, length-append}
use Rattle.byteorder.specs.Endian.{little_bytes, little_number}
use Rattle.byteorder.specs.Numbers.{length-bytes_low_first, little_number-reads_back}
use Rattle.cs_codec.specs.Fields.{is_in, number_at, number_bytes, flag_bytes, flag_at, optional_bytes, optional_fits, some_above_0, optional_at}
use Rattle.cs_codec.specs.Codecs.{Codec}
use Rattle.cs_codec.proofs.Own.{own}
use Rattle.cs_codec.proofs.Steps.{test_met, both_true}
use Rattle.cs_codec.proofs.Codecs.{mapped_codec}

pub number_codec : (width low high : ℕ) → high < 256 ^ width → Codec (number_bytes width) (is_in low high) (number_at width low high)
unfolding number_bytes
number_codec width low high small = record {
  back = λ x rest fits.
      let parts = and_parts (nat_le low x) (nat_le x high) fits in
      let upto : x ≤ high = leb-true x high parts.1 in
      let same : little_number width (little_bytes width x ++ rest) ≡ x = little_number-reads_back width x rest (omega arith) in
      let size : length (little_bytes width x) ≡ width = length-bytes_low_first 0 width x in
      let room : nat_le width (length (little_bytes width x ++ rest)) ≡ true
      = le-leb width (length (little_bytes width x ++ rest)) (omega (arith, size, length-append (little_bytes width x) rest)) in
      rw (room, same, fits, drop_at (little_bytes width x) rest width size) refl;
  owns = λ xs x rest all is.
      let got = test_met (nat_le width (length xs) && is_in low high (little_number width xs)) (little_number width xs, drop width xs) (x, rest) is in
      let tests = and_parts (nat_le width (length xs)) (is_in low high (little_number width xs)) got.0 in
      let value : little_number width xs ≡ x = ap (λ (q : ℕ × List ℕ). q.0) got.1 in
      let behind : drop width xs ≡ rest = ap (λ (q : ℕ × List ℕ). q.1) got.1 in
      let front : little_bytes width x ≡ take width xs = ap (little_bytes width) (sym value) ∙ own width xs (leb-true width (length xs) tests.0) all in
      (sym (rw (front, ← behind) (take-append-drop width xs)), subst (λ n. is_in low high n ≡ true) value tests.1);
}

pub flag_codec : Codec flag_bytes (λ b. true) flag_at
flag_codec = mapped_codec (number_codec 1 0 1 (omega arith)) flag_bytes (λ b. true) (λ n. n == 1) from to
  where
    from : (b : Bool) → true ≡ true → (n : ℕ) × (is_in 0 1 n ≡ true) × (flag_bytes b ≡ number_bytes 1 n) × ((n == 1) ≡ b)
    from true e = (1, refl, refl, refl)
    from false e = (0, refl, refl, refl)

    to : (n : ℕ) → is_in 0 1 n ≡ true → (flag_bytes (n == 1) ≡ number_bytes 1 n) × (true ≡ true)
    to zero e = (refl, refl)
    to (suc zero) e = (refl, refl)
    to (suc (suc n)) e =
        let few : suc (suc n) ≤ 1 = leb-true (suc (suc n)) 1 (and_parts (nat_le 0 (suc (suc n))) (nat_le (suc (suc n)) 1) e).1 in
        absurd (omega arith)

pub optional_codec : Codec optional_bytes optional_fits optional_at
optional_codec = mapped_codec (number_codec 8 0 99999 (omega arith)) optional_bytes optional_fits some_above_0 from to
  where
    from : (o : Option ℕ) → optional_fits o ≡ true → (n : ℕ) × (is_in 0 99999 n ≡ true) × (optional_bytes o ≡ number_bytes 8 n) × (some_above_0 n ≡ o)
    from None e = (0, refl, refl, refl)
    from (Some zero) e = absurd cc
    from (Some (suc n)) e = (suc n, both_true _ _ (le-leb 0 (suc n) (omega arith)) (and_parts (nat_le 1 (suc n)) (nat_le (suc n) 99999) e).1, refl, refl)

    to : (n : ℕ) → is_in 0 99999 n ≡ true → (optional_bytes (some_above_0 n) ≡ number_bytes 8 n) × (optional_fits (some_above_0 n) ≡ true)
    to zero e = (refl, refl)
    to (suc n) e = (refl, both_true _ _ (le-leb 1 (suc n) (omega arith)) (and_parts (nat_le 0 (suc n)) (nat_le (suc n) 99999) e).1)
