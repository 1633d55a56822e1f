-- The bytes of an object in blocks of 4,096 bytes, the first one first. A block ends with the last byte that was written to it.
use Rattle.std.specs.Prelude.{◌≡◌, ℕ, ◌+◌, ◌/◌, ◌%◌, ◌<◌, List, [], slice_index, slice_index_or}
use Rattle.cs_laws.specs.Image.{byte_over}
use Rattle.cs_trim.specs.declared.block.TheConstants.{BLOCK_SIZE}

abbrev pub block_at : List (List ℕ) → ℕ → List ℕ
block_at blocks n = slice_index_or blocks n []

-- the byte at a place of the object; what was never written is zero
abbrev pub byte_in : List (List ℕ) → ℕ → ℕ
byte_in blocks i = slice_index (block_at blocks (i / BLOCK_SIZE)) (i % BLOCK_SIZE)

-- a block that begins at `start`, after bytes are written from `off` on
abbrev pub IsWrittenOver : ℕ → ℕ → List ℕ → List ℕ → List ℕ → Type 0
IsWrittenOver start off bytes old new = (k : ℕ) → k < BLOCK_SIZE → slice_index new k ≡ byte_over off bytes (start + k) (slice_index old k)

-- all bytes, after some are written from `off` on
abbrev pub Writes : ℕ → List ℕ → List (List ℕ) → List (List ℕ) → Type 0
Writes off bytes old new = (i : ℕ) → byte_in new i ≡ byte_over off bytes i (byte_in old i)
