-- A spelling and a reading that fit each other.
use Rattle.std.specs.Prelude.{◌≡◌, ℕ, ◌<◌, Bool, true, List, ◌++◌, Option, Some, None, slice_index}
use Rattle.cs_codec.specs.Fields.{Reading, number_bytes}

abbrev pub IsBytes : List ℕ → Type 0
IsBytes xs = (i : ℕ) → slice_index xs i < 256

-- each value that fits is read from what is written of it, and what is read was written of a value that fits
pub record Codec {X : Type 0} (bytes : X → List ℕ) (fits : X → Bool) (read : Reading X) : Type 0 where
  pub back : (x : X) (rest : List ℕ) → fits x ≡ true → read (bytes x ++ rest) ≡ Some (x, rest)
  pub owns : (xs : List ℕ) (x : X) (rest : List ℕ) → IsBytes xs → read xs ≡ Some (x, rest) → (xs ≡ bytes x ++ rest) × (fits x ≡ true)

-- the value is spelled so, and fits
abbrev pub IsSpelled : {X : Type 0} → (X → List ℕ) → (X → Bool) → List ℕ → Option X → Type 0
IsSpelled bytes fits b None = Unit {0}
IsSpelled bytes fits b (Some x) = (b ≡ bytes x) × (fits x ≡ true)

-- no value that fits is spelled so
abbrev pub IsUnspelled : {X : Type 0} → (X → List ℕ) → (X → Bool) → List ℕ → Option X → Type 0
IsUnspelled {X = X} bytes fits b None = (x : X) → fits x ≡ true → b ≡ bytes x → ⊥
IsUnspelled bytes fits b (Some x) = Unit {0}

-- the bytes behind a byte that tells the kind spell the value with it, and it fits
abbrev pub IsOfKind : {X : Type 0} → (X → List ℕ) → (X → Bool) → List ℕ → X → List ℕ → ℕ → Type 0
IsOfKind bytes fits xs x rest k = (number_bytes 1 k ++ xs ≡ bytes x ++ rest) × (fits x ≡ true)
