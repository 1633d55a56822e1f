use Rattle.std.proofs.Common.{◌≡◌, ◌≤◌, take}
use Rattle.cs_objstore.specs.Files.{with_new}
use Rattle.cs_objstore.proofs.files.apply_all.Given as goal

abbrev pub invariant-loop-op : goal.invariant-loop-op
invariant-loop-op g l = record {
  applied : g.O.ObjStore.ops l.store ≡ with_new (take l.op-index l.ops) (g.O.ObjStore.ops l.fn.store);
  later : g.O.ObjStore.faults l.fn.store ≤ g.O.ObjStore.faults l.store;
}
