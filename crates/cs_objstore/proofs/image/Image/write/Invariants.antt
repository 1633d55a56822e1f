use Rattle.std.proofs.Common.{◌≡◌, ℕ, ◌*◌, ◌<◌, ◌≤◌, length}
use Rattle.cs_objstore.specs.declared.block.TheConstants.{BLOCK_SIZE}
use Rattle.cs_objstore.specs.Blocks.{block_at, IsWrittenOver}
use Rattle.cs_objstore.proofs.image.Image.write.Given as goal

abbrev pub invariant-loop-index : goal.invariant-loop-index
invariant-loop-index l = record {
  few : length l.self-inside.blocks.items ≡ length l.fn.self;
  written : (n : ℕ) → n < l.index → IsWrittenOver (n * BLOCK_SIZE) l.fn.off l.bytes (block_at l.fn.self n) (block_at l.self-inside.blocks.items n);
  rest : (n : ℕ) → l.index ≤ n → block_at l.self-inside.blocks.items n ≡ block_at l.fn.self n;
}
