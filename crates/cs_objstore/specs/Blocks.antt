-- The bytes of an object in blocks of 4,096 bytes, the first one first. A block ends with the last byte that was written to it.
use Rattle.std.specs.Prelude.{◌≡◌, ℕ, ◌+◌, ◌*◌, ◌-◌, ◌/◌, ◌%◌, ◌<◌, ◌≤◌, Bool, true, false, List, [], length, min, slice_index, slice_index_or}
use Rattle.std.specs.declared.alloc.Global.{Global}
use Rattle.std.specs.declared.vec.Vec.{Vec}
use Rattle.std.specs.declared.sync.Arc.{Arc}
use Rattle.cs_laws.specs.Image.{byte_over}
use Rattle.cs_objstore.specs.declared.block.TheConstants.{BLOCK_SIZE}
use Rattle.cs_objstore.specs.declared.block.Held.{Held}
use Rattle.cs_objstore.specs.declared.block.Held.TheVariants as held

-- a block: its bytes, and whether states share them
pub record BlockState : Type 0 where
  pub bytes : List ℕ
  pub shared : Bool

abbrev pub no_block : BlockState
no_block = record { bytes = []; shared = false }

-- the bytes behind a pointer
abbrev pub shared_bytes : Arc (Vec ℕ Global) Global → List ℕ
shared_bytes shared = shared.value.items

abbrev pub state_of : Held → BlockState
state_of (held.Own own) = record { bytes = own.items; shared = false }
state_of (held.Shared shared) = record { bytes = shared_bytes shared; shared = true }

abbrev pub block_at : List BlockState → ℕ → BlockState
block_at blocks n = slice_index_or blocks n no_block

-- the byte at a place of the object; what was never written is zero
abbrev pub byte_in : List BlockState → ℕ → ℕ
byte_in blocks i = slice_index (block_at blocks (i / BLOCK_SIZE)).bytes (i % BLOCK_SIZE)

-- a block has at each place the byte of another one
abbrev pub HasBytesOf : BlockState → BlockState → Type 0
HasBytesOf old new = (k : ℕ) → slice_index new.bytes k ≡ slice_index old.bytes k

-- the same of all blocks
abbrev pub HasAllBytesOf : List BlockState → List BlockState → Type 0
HasAllBytesOf old new = (i : ℕ) → byte_in new i ≡ byte_in old i

-- bytes can be written to a block up to a place, where they lie
abbrev pub IsReady : ℕ → BlockState → Type 0
IsReady end block = (block.shared ≡ false) × (end ≤ length block.bytes)

-- so can bytes to each block that those from `off` up to `end` touch
abbrev pub AreReady : ℕ → ℕ → List BlockState → Type 0
AreReady off end blocks = (n : ℕ) → off / BLOCK_SIZE ≤ n → n * BLOCK_SIZE < end
    → (n < length blocks) × IsReady (min (end - n * BLOCK_SIZE) BLOCK_SIZE) (block_at blocks n)

-- a block that begins at `start`, after bytes are written from `off` on
abbrev pub IsWrittenOver : ℕ → ℕ → List ℕ → BlockState → BlockState → Type 0
IsWrittenOver start off bytes old new = (k : ℕ) → k < BLOCK_SIZE → slice_index new.bytes k ≡ byte_over off bytes (start + k) (slice_index old.bytes k)

-- all bytes, after some are written from `off` on
abbrev pub Writes : ℕ → List ℕ → List BlockState → List BlockState → Type 0
Writes off bytes old new = (i : ℕ) → byte_in new i ≡ byte_over off bytes i (byte_in old i)
