-- Reading and writing as a whole.
use Rattle.std.specs.Prelude.{◌≡◌, ℕ, ◌+◌, ◌≤◌, List, ◌++◌, length, Option}
use Rattle.std.specs.Io.KnownBytes.{Consumes, Appends, IsAtEnd}
use Rattle.cs_io.specs.declared.whole.ReadAll.{ReadAll}
use Rattle.cs_io.specs.declared.whole.ReadAll.TheVariants.{All, TooLong}

-- all the bytes that were left were read, or one more than the limit
abbrev pub ReadsWhole : ℕ → Option (List ℕ) → Option (List ℕ) → ReadAll → Type 0
ReadsWhole limit old new (All bs) = (length bs ≤ limit) × Consumes old new bs × IsAtEnd new
ReadsWhole limit old new TooLong = (bs : List ℕ) × (length bs ≡ limit + 1) × Consumes old new bs

-- some of the bytes that were left are gone, the first ones
abbrev pub ConsumesFront : Option (List ℕ) → Option (List ℕ) → Type 0
ConsumesFront old new = (bs : List ℕ) × Consumes old new bs

-- a front of the bytes was taken, and the rest wasn't
pub record TookFront (old new : Option (List ℕ)) (bytes rest : List ℕ) : Type 0 where
  pub front : List ℕ
  pub whole : bytes ≡ front ++ rest
  pub taken : Appends old new front

-- some front of the bytes was taken
abbrev pub AppendsFront : Option (List ℕ) → Option (List ℕ) → List ℕ → Type 0
AppendsFront old new bytes = (rest : List ℕ) × TookFront old new bytes rest
