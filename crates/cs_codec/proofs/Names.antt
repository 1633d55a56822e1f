-- The bytes of names, and their codec.
use Rattle.std.proofs.Common.{◌≡◌, refl, sym, ap, ◌∙◌, ℕ, ◌+◌, ◌%◌, ◌≤◌, true, List, [], ◌∷◌, ◌++◌, length, take, add-one, arith, subst, drop, Some, append_assoc}
use Rattle.std.specs.Prelude.{nat_le, ◌&&◌}
use Rattle.std.specs.List.{list_all}
use Rattle.std.proofs.lemmas.Bool.{and_parts, leb-true, le-leb}
use Rattle.std.proofs.lemmas.List.{take_at, drop_at, take-append-drop, length-append, length-take-le}
use Rattle.cs_ids.specs.Names.{is_letter_or_digit, is_name, is_name_byte}
use Rattle.cs_codec.specs.Fields.{◌>>=◌, is_in, number_at, number_bytes, name_bytes, text_at, name_at}
use Rattle.cs_codec.specs.Codecs.{Codec}
use Rattle.cs_codec.proofs.Steps.{behind_front, bind_some, test_met, both_true}
use Rattle.cs_codec.proofs.Numbers.{number_codec}

-- a name has 1 to 32 bytes
pub name_length : (name : List ℕ) → is_name name ≡ true → (1 ≤ length name) × (length name ≤ 32)
name_length [] is = absurd cc
name_length (c ∷ cs) is =
    let rest = (and_parts (is_letter_or_digit c) (nat_le (length cs) 31 && list_all is_name_byte cs) is).1 in
    let few : length cs ≤ 31 = leb-true (length cs) 31 (and_parts (nat_le (length cs) 31) (list_all is_name_byte cs) rest).0 in
    (omega arith, omega arith)

-- a byte of the length, and the name behind it
pub written_name : (name text copied rest : List ℕ) → text ≡ name → is_name text ≡ true → copied ≡ text
    → take (length text + 1) (length text ∷ (copied ++ rest)) ≡ length name % 256 ∷ name
written_name name text copied rest same is copy =
    let few : length name ≤ 32 = (name_length name (ap is_name (sym same) ∙ is)).1 in
    let byte : length name ≡ length name % 256 = omega arith in
    rw (copy, same, add-one, take_at name rest (length name) refl) (ap (λ (n : ℕ). n ∷ name) byte)

pub text_owns : (n : ℕ) (xs name rest : List ℕ) → text_at n xs ≡ Some (name, rest) → (xs ≡ name ++ rest) × (length name ≡ n) × (is_name name ≡ true)
text_owns n xs name rest is =
    let got = test_met (nat_le n (length xs) && is_name (take n xs)) (take n xs, drop n xs) (name, rest) is in
    let tests = and_parts (nat_le n (length xs)) (is_name (take n xs)) got.0 in
    let value : take n xs ≡ name = ap (λ (q : List ℕ × List ℕ). q.0) got.1 in
    let behind : drop n xs ≡ rest = ap (λ (q : List ℕ × List ℕ). q.1) got.1 in
    let room : n ≤ length xs = leb-true n (length xs) tests.0 in
    (sym (rw (← value, ← behind) (take-append-drop n xs)), rw (← value) (length-take-le n xs room), subst (λ t. is_name t ≡ true) value tests.1)

name_few : (name : List ℕ) → is_name name ≡ true → is_in 1 32 (length name) ≡ true
name_few name is =
    let few = name_length name is in
    both_true _ _ (le-leb 1 (length name) few.0) (le-leb (length name) 32 few.1)

pub name_codec : Codec name_bytes is_name name_at
unfolding name_at
name_codec = record {
  back = λ name rest fits.
      let few : number_at 1 1 32 (number_bytes 1 (length name) ++ (name ++ rest)) ≡ Some (length name, name ++ rest)
      = (number_codec 1 1 32 (omega arith)).back (length name) (name ++ rest) (name_few name fits) in
      let room : nat_le (length name) (length (name ++ rest)) ≡ true = le-leb (length name) (length (name ++ rest)) (omega (arith, length-append name rest)) in
      let text : text_at (length name) (name ++ rest) ≡ Some (name, rest)
      = rw (room, take_at name rest (length name) refl, drop_at name rest (length name) refl, fits) refl in
      ap (λ o. o >>= λ n. text_at n.0 n.1) (ap (number_at 1 1 32) (append_assoc (number_bytes 1 (length name)) name rest) ∙ few) ∙ text;
  owns = λ xs name rest all is.
      let one = bind_some (number_at 1 1 32 xs) (λ n. text_at n.0 n.1) (name, rest) is in
      let n : ℕ × List ℕ = one.0 in
      let left = (number_codec 1 1 32 (omega arith)).owns xs n.0 n.1 all one.1 in
      let right = text_owns n.0 n.1 name rest one.2 in
      let count : xs ≡ number_bytes 1 (length name) ++ n.1 = left.0 ∙ ap (λ k. number_bytes 1 k ++ n.1) (sym right.1) in
      (behind_front (number_bytes 1 (length name)) name rest xs n.1 count right.0, right.2);
}
