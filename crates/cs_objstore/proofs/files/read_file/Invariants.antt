use Rattle.std.proofs.Common.{◌≡◌, ◌≤◌, length}
use Rattle.cs_laws.specs.Answers.{bytes_from}
use Rattle.cs_objstore.specs.Files.{file_byte}
use Rattle.cs_objstore.proofs.Reading.{AreLeft}
use Rattle.cs_objstore.proofs.files.read_file.Given as goal

abbrev pub invariant-loop-piece : goal.invariant-loop-piece
invariant-loop-piece g l = record {
  can : (goal.iterator-loop-piece g).can_next l.piece-iterator;
  finite : (goal.iterator-loop-piece g).is_finite l.piece-iterator;
  left : AreLeft l.off l.count (length l.bytes) l.piece-iterator;
  bytes : l.bytes ≡ bytes_from (file_byte l.at l.file (g.O.ObjStore.ops l.fn.store)) l.off (length l.bytes);
  kept : g.O.ObjStore.ops l.store ≡ g.O.ObjStore.ops l.fn.store;
  later : g.O.ObjStore.faults l.fn.store ≤ g.O.ObjStore.faults l.store;
}
