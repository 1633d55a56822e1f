use Rattle.std.proofs.Common.{◌≡◌, ◌++◌, length, take}
use Rattle.std.specs.List.{flat_map}
use Rattle.cs_codec.specs.Fields.{number_bytes}
use Rattle.cs_codec.proofs.writer.put_list.Given as goal

abbrev pub invariant-loop-item : goal.invariant-loop-item
invariant-loop-item g l = l.out ≡ l.fn.out ++ (number_bytes 2 (length l.items) ++ flat_map g.T.Field.bytes (take l.item-index l.items))
