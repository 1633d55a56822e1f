-- The codec of counted lists.
use Rattle.std.proofs.Common.{◌≡◌, refl, sym, ap, ◌∙◌, subst, ℕ, zero, suc, Bool, true, List, [], ◌∷◌, ◌++◌, length, Some, append_assoc, arith}
use Rattle.std.specs.Prelude.{nat_le}
use Rattle.std.specs.List.{list_all, flat_map}
use Rattle.std.proofs.lemmas.Bool.{and_parts, le-leb}
use Rattle.cs_codec.specs.Fields.{◌>>=◌, Reading, is_in, number_at, number_bytes, items_at, list_at, list_bytes, list_fits}
use Rattle.cs_codec.specs.Codecs.{Codec, IsBytes}
use Rattle.cs_codec.proofs.Steps.{bytes_behind, behind_front, bind_some, some_is, both_true, made_some}
use Rattle.cs_codec.proofs.Numbers.{number_codec}

items_back : {X : Type 0} (bytes : X → List ℕ) (fits : X → Bool) (read : Reading X) → Codec bytes fits read
    → (xs : List X) (rest : List ℕ) → list_all fits xs ≡ true → items_at read (length xs) (flat_map bytes xs ++ rest) ≡ Some (xs, rest)
unfolding items_at
items_back bytes fits read one [] rest all = refl
items_back {X} bytes fits read one (x ∷ xs) rest all =
    let parts = and_parts (fits x) (list_all fits xs) all in
    let first : read ((bytes x ++ flat_map bytes xs) ++ rest) ≡ Some (x, flat_map bytes xs ++ rest)
    = ap read (append_assoc (bytes x) (flat_map bytes xs) rest) ∙ one.back x (flat_map bytes xs ++ rest) parts.0 in
    let more : items_at read (length xs) (flat_map bytes xs ++ rest) ≡ Some (xs, rest) = items_back bytes fits read one xs rest parts.1 in
    rw (first, more) refl

items_own : {X : Type 0} (bytes : X → List ℕ) (fits : X → Bool) (read : Reading X) → Codec bytes fits read
    → (n : ℕ) (bs : List ℕ) (xs : List X) (rest : List ℕ) → IsBytes bs → items_at read n bs ≡ Some (xs, rest)
    → (bs ≡ flat_map bytes xs ++ rest) × (list_all fits xs ≡ true) × (length xs ≡ n)
unfolding items_at
items_own {X} bytes fits read one zero bs xs rest all is =
    let parts : ([], bs) ≡ (xs, rest) = some_is {A = List X × List ℕ} ([], bs) (xs, rest) is in
    let value : [] ≡ xs = ap (λ (q : List X × List ℕ). q.0) parts in
    let behind : bs ≡ rest = ap (λ (q : List X × List ℕ). q.1) parts in
    subst (λ (ys : List X). (bs ≡ flat_map bytes ys ++ rest) × (list_all fits ys ≡ true) × (length ys ≡ 0)) value (behind, refl, refl)
items_own {X} bytes fits read one (suc n) bs xs rest all is =
    let first = bind_some (read bs) (λ x. (items_at read n x.1 >>= λ r. Some (x.0 ∷ r.0, r.1))) (xs, rest) is in
    let x : X × List ℕ = first.0 in
    let more = made_some (λ r. x.0 ∷ r) (items_at read n x.1) xs rest first.2 in
    let left = one.owns bs x.0 x.1 all first.1 in
    let right = items_own bytes fits read one n x.1 more.0 rest (bytes_behind (bytes x.0) x.1 (subst IsBytes left.0 all)) more.1 in
    subst (λ (ys : List X). (bs ≡ flat_map bytes ys ++ rest) × (list_all fits ys ≡ true) × (length ys ≡ suc n)) more.2 (
      behind_front (bytes x.0) (flat_map bytes more.0) rest bs x.1 left.0 right.0,
      both_true (fits x.0) (list_all fits more.0) left.1 right.1,
      omega (arith, right.2),
    )

pub list_codec : {X : Type 0} {bytes : X → List ℕ} {fits : X → Bool} {read : Reading X} → Codec bytes fits read
    → Codec (list_bytes bytes) (list_fits fits) (list_at read)
unfolding list_at
list_codec {X} {bytes} {fits} {read} one = record {
  back = λ xs rest all.
      let parts = and_parts (nat_le (length xs) 65535) (list_all fits xs) all in
      let few : is_in 0 65535 (length xs) ≡ true = both_true _ _ (le-leb 0 (length xs) (omega arith)) parts.0 in
      let count : number_at 2 0 65535 (number_bytes 2 (length xs) ++ (flat_map bytes xs ++ rest)) ≡ Some (length xs, flat_map bytes xs ++ rest)
      = (number_codec 2 0 65535 (omega arith)).back (length xs) (flat_map bytes xs ++ rest) few in
      ap (λ o. o >>= λ n. items_at read n.0 n.1) (ap (number_at 2 0 65535) (append_assoc (number_bytes 2 (length xs)) (flat_map bytes xs) rest) ∙ count)
      ∙ items_back bytes fits read one xs rest parts.1;
  owns = λ bs xs rest all is.
      let first = bind_some (number_at 2 0 65535 bs) (λ n. items_at read n.0 n.1) (xs, rest) is in
      let n : ℕ × List ℕ = first.0 in
      let left = (number_codec 2 0 65535 (omega arith)).owns bs n.0 n.1 all first.1 in
      let right = items_own bytes fits read one n.0 n.1 xs rest (bytes_behind (number_bytes 2 n.0) n.1 (subst IsBytes left.0 all)) first.2 in
      let few : nat_le n.0 65535 ≡ true = (and_parts (nat_le 0 n.0) (nat_le n.0 65535) left.1).1 in
      let count : bs ≡ number_bytes 2 (length xs) ++ n.1 = left.0 ∙ ap (λ k. number_bytes 2 k ++ n.1) (sym right.2) in (
        behind_front (number_bytes 2 (length xs)) (flat_map bytes xs) rest bs n.1 count right.0,
        both_true _ _ (subst (λ k. nat_le k 65535 ≡ true) (sym right.2) few) right.1,
      );
}
