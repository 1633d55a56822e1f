use Rattle.std.proofs.Common.{◌≡◌, ℕ, ◌*◌, ◌<◌, length}
use Rattle.cs_trim.specs.declared.block.TheConstants.{BLOCK_SIZE}
use Rattle.cs_trim.specs.Blocks.{block_at, IsWrittenOver}
use Rattle.cs_trim.proofs.image.Image.written.Given as goal

abbrev pub invariant-loop-index : goal.invariant-loop-index
invariant-loop-index l = record {
  count : length l.blocks.items ≡ l.index;
  written : (n : ℕ) → n < l.index → IsWrittenOver (n * BLOCK_SIZE) l.off l.bytes (block_at l.self n) (block_at l.blocks.items n);
}
