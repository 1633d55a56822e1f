use Rattle.std.proofs.Common.{◌≡◌, take}
use Rattle.std.specs.List.{filter_map}
use Rattle.cs_records.specs.Sinces.{since_in}
use Rattle.cs_records.specs.OwnTable.{changed_by, own_in}
use Rattle.cs_records.proofs.own_table.OwnTable.changed.Given as goal

abbrev pub invariant-loop-directory : goal.invariant-loop-directory
invariant-loop-directory l = l.told ≡ filter_map (changed_by (own_in l.self) (since_in l.sinces) l.dir l.is_new) (take l.directory-index l.directories)
