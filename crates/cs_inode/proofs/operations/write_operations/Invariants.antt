use Rattle.std.proofs.Common.{◌≡◌, ◌+◌, ◌≤◌, ◌++◌, length, All}
use Rattle.cs_geom.specs.declared.places.TheConstants.{OBJECT_SIZE}
use Rattle.cs_geom.specs.Cuts.{pieces_of}
use Rattle.cs_laws.specs.Operations.{operations}
use Rattle.cs_inode.proofs.Pieces.{IsPieceOf}
use Rattle.cs_inode.proofs.operations.write_operations.Given as goal

abbrev pub invariant-loop-piece : goal.invariant-loop-piece
invariant-loop-piece l = record {
  can : (goal.iterator-loop-piece).can_next l.piece-iterator;
  finite : (goal.iterator-loop-piece).is_finite l.piece-iterator;
  whole : pieces_of OBJECT_SIZE l.off (length l.bytes) ≡ l.yielded ++ l.piece-iterator;
  pieces : All (IsPieceOf l.off (length l.bytes)) l.piece-iterator;
  some : 1 ≤ l.fn.tid;
  number : l.number ≡ l.fn.tid + length l.yielded;
  few : length l.yielded + length l.piece-iterator ≤ 2;
  made : l.ops ≡ operations l.fn.tid l.file l.off l.bytes l.context l.yielded;
}
