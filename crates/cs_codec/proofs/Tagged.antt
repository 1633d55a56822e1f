-- One of several kinds, behind a byte that tells which.
use Rattle.std.proofs.Common.{◌≡◌, refl, sym, ap, ◌∙◌, subst, ℕ, ◌<◌, Bool, true, false, cond, List, ◌++◌, Option, Some, append_assoc, arith}
use Rattle.std.specs.Prelude.{◌==◌}
use Rattle.std.proofs.lemmas.Bool.{eqb-true}
use Rattle.cs_codec.specs.Fields.{◌>>=◌, Reading, made, tagged, is_in, number_at, number_bytes}
use Rattle.cs_codec.specs.Codecs.{Codec, IsBytes, IsOfKind}
use Rattle.cs_codec.proofs.Steps.{bytes_behind, bind_some, made_some}
use Rattle.cs_codec.proofs.Numbers.{number_codec}

-- a kind that is spelled is read
pub kind_back : {X Y : Type 0} {bytes : X → List ℕ} {fits : X → Bool} {read : Reading X} → Codec bytes fits read
    → (low high k : ℕ) (choose : ℕ → Reading Y) (f : X → Y) → high < 256 → is_in low high k ≡ true
    → ((xs : List ℕ) → choose k xs ≡ made f (read xs)) → (x : X) (rest : List ℕ) → fits x ≡ true
    → tagged low high choose ((number_bytes 1 k ++ bytes x) ++ rest) ≡ Some (f x, rest)
kind_back {X} {Y} {bytes} {fits} {read} one low high k choose f small in_range chosen x rest fine =
    let tag : number_at 1 low high (number_bytes 1 k ++ (bytes x ++ rest)) ≡ Some (k, bytes x ++ rest)
    = (number_codec 1 low high (omega arith)).back k (bytes x ++ rest) in_range in
    ap (λ o. o >>= λ n. choose n.0 n.1) (ap (number_at 1 low high) (append_assoc (number_bytes 1 k) (bytes x) rest) ∙ tag)
    ∙ (chosen (bytes x ++ rest) ∙ ap (made f) (one.back x rest fine))

-- a kind that is read is spelled so
pub kind_owns : {X Y : Type 0} {bytes : X → List ℕ} {fits : X → Bool} {read : Reading X} → Codec bytes fits read
    → (k : ℕ) (spelled : Y → List ℕ) (fit : Y → Bool) (f : X → Y)
    → ((x : X) → spelled (f x) ≡ number_bytes 1 k ++ bytes x) → ((x : X) → fit (f x) ≡ fits x)
    → (xs : List ℕ) (y : Y) (rest : List ℕ) → IsBytes xs → made f (read xs) ≡ Some (y, rest) → IsOfKind spelled fit xs y rest k
kind_owns {X} {Y} {bytes} {fits} {read} one k spelled fit f text fine xs y rest all is =
    let x = made_some f (read xs) y rest is in
    let left = one.owns xs x.0 rest all x.1 in
    subst (λ (z : Y). IsOfKind spelled fit xs z rest k) x.2 (
      ap (λ ys. number_bytes 1 k ++ ys) left.0 ∙ (sym (append_assoc (number_bytes 1 k) (bytes x.0) rest) ∙ ap (λ ys. ys ++ rest) (sym (text x.0))),
      fine x.0 ∙ left.1,
    )

-- the kind is this one or one of the others
pub pick : {Z : Type 0} (P : ℕ → Type 0) (k c : ℕ) (a b : Option Z) (z : Z)
    → cond (k == c) a b ≡ Some z → (a ≡ Some z → P c) → (b ≡ Some z → P k) → P k
pick {Z} P k c a b z is here there = at (k == c) refl is
  where
    at : (t : Bool) → (k == c) ≡ t → cond t a b ≡ Some z → P k
    at true same found = subst P (sym (eqb-true k c same)) (here found)
    at false other found = there found

pub tagged_codec : {Y : Type 0} (low high : ℕ) (choose : ℕ → Reading Y) (spelled : Y → List ℕ) (fit : Y → Bool) → high < 256
    → ((y : Y) (rest : List ℕ) → fit y ≡ true → tagged low high choose (spelled y ++ rest) ≡ Some (y, rest))
    → ((k : ℕ) (xs : List ℕ) (y : Y) (rest : List ℕ) → IsBytes xs → choose k xs ≡ Some (y, rest) → IsOfKind spelled fit xs y rest k)
    → Codec spelled fit (tagged low high choose)
tagged_codec low high choose spelled fit small back owns = record {
  back = back;
  owns = λ xs y rest all is.
      let one = bind_some (number_at 1 low high xs) (λ n. choose n.0 n.1) (y, rest) is in
      let left = (number_codec 1 low high (omega arith)).owns xs one.0.0 one.0.1 all one.1 in
      let right = owns one.0.0 one.0.1 y rest (bytes_behind (number_bytes 1 one.0.0) one.0.1 (subst IsBytes left.0 all)) one.2 in
      (left.0 ∙ right.0, right.1);
}
