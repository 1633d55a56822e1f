use Rattle.std.proofs.Common.{◌≡◌, ℕ, ◌<◌, length}
use Rattle.cs_objstore.specs.Blocks.{block_at, HasBytesOf}
use Rattle.cs_objstore.proofs.image.Image.share.Given as goal

abbrev pub invariant-loop-index : goal.invariant-loop-index
invariant-loop-index l = record {
  few : length l.self-inside.blocks.items ≡ length l.fn.self;
  count : length l.blocks.items ≡ l.index;
  kept : (n : ℕ) → HasBytesOf (block_at l.fn.self n) (block_at l.self-inside.blocks.items n);
  same : (n : ℕ) → n < l.index → HasBytesOf (block_at l.fn.self n) (block_at l.blocks.items n);
}
