use Rattle.std.proofs.Common.{◌≡◌, ℕ, ◌*◌, ◌≤◌, length}
use Rattle.cs_geom.specs.declared.places.TheConstants.{OBJECT_SIZE}
use Rattle.cs_objstore.specs.declared.block.TheConstants.{BLOCK_SIZE}
use Rattle.cs_objstore.specs.Blocks.{block_at, HasBytesOf}
use Rattle.cs_objstore.proofs.image.Image.extend.Given as goal

abbrev pub invariant-loop : goal.invariant-loop
invariant-loop l = record {
  few : length l.self-inside.blocks.items * BLOCK_SIZE ≤ OBJECT_SIZE;
  count : length l.self-inside.blocks.items ≡ l.counter;
  kept : (n : ℕ) → HasBytesOf (block_at l.fn.self n) (block_at l.self-inside.blocks.items n);
}
