use Rattle.std.proofs.Common.{◌≡◌, ℕ, ◌+◌, ◌*◌, ◌<◌, List, length, slice_index, nat_lt, cond}
use Rattle.cs_trim.specs.Blocks.{byte_in}
use Rattle.cs_trim.specs.declared.block.TheConstants.{BLOCK_SIZE}
use Rattle.cs_trim.proofs.image.Image.read.Given as goal

-- the byte at a place once the first blocks were read
abbrev read_to : List (List ℕ) → ℕ → ℕ → ℕ
read_to blocks n i = cond (nat_lt i (n * BLOCK_SIZE)) (byte_in blocks i) 0

abbrev pub invariant-loop-index : goal.invariant-loop-index
invariant-loop-index l = (k : ℕ) → k < length l.out → slice_index l.out k ≡ read_to l.self l.index (l.fn.off + k)
