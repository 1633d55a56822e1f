use Rattle.std.proofs.Common.{◌≡◌, take}
use Rattle.cs_tree.specs.Directories.{path_of}
use Rattle.cs_client.specs.Told.{ChangesAll, count_changed}
use Rattle.cs_client.specs.Views.{KeepsTables, SameHomes}
use Rattle.cs_client.proofs.told.change_all.Given as goal

abbrev pub invariant-loop-file : goal.invariant-loop-file
invariant-loop-file l = record {
  count : l.count ≡ count_changed (path_of l.tree) l.realms l.fn.files (take l.file-index l.made);
  rows : ChangesAll (path_of l.tree) l.realms l.fn.files l.files (take l.file-index l.made);
  tables : KeepsTables l.fn.files l.files;
  homes : SameHomes l.fn.files l.files;
}
