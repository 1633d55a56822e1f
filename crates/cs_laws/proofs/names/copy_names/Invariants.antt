use Rattle.std.proofs.Common.{◌≡◌, take}
use Rattle.cs_laws.proofs.names.copy_names.Given as goal

abbrev pub invariant-loop-item : goal.invariant-loop-item
invariant-loop-item l = l.copy ≡ take l.item-index l.names
