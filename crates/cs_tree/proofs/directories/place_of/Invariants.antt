use Rattle.std.proofs.Common.{◌≡◌, ◌++◌, take, drop}
use Rattle.cs_tree.specs.Directories.{with_added}
use Rattle.cs_tree.proofs.directories.place_of.Given as goal

abbrev pub invariant-loop-place : goal.invariant-loop-place
invariant-loop-place l = take l.place l.directories ++ with_added l.added (drop l.place l.directories) ≡ with_added l.added l.directories
