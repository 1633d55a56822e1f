use Rattle.std.proofs.Common.{◌≡◌, ℕ, ◌*◌, ◌-◌, ◌/◌, ◌<◌, ◌≤◌, length, min}
use Rattle.cs_objstore.specs.declared.block.TheConstants.{BLOCK_SIZE}
use Rattle.cs_objstore.specs.Blocks.{block_at, HasBytesOf, IsReady}
use Rattle.cs_objstore.proofs.image.Image.make_ready.Given as goal

abbrev pub invariant-loop-index : goal.invariant-loop-index
invariant-loop-index l = record {
  few : length l.self-inside.blocks.items ≡ length l.initial.self-inside.blocks.items;
  kept : (n : ℕ) → HasBytesOf (block_at l.initial.self-inside.blocks.items n) (block_at l.self-inside.blocks.items n);
  ready : (n : ℕ) → l.off / BLOCK_SIZE ≤ n → n < l.index → IsReady (min (l.end - n * BLOCK_SIZE) BLOCK_SIZE) (block_at l.self-inside.blocks.items n);
}
