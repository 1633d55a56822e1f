use Rattle.std.proofs.Common.{◌≡◌, drop}
use Rattle.cs_trim.specs.Held.{clone_image}
use Rattle.cs_trim.proofs.object.clone_image.Given as goal

abbrev pub invariant-loop-clone : goal.invariant-loop-clone
invariant-loop-clone l = clone_image l.number (drop l.clone-index l.clones) ≡ clone_image l.number l.clones
