use Rattle.cs_theorems.proofs.Applying.{run_tells_known}
use Rattle.cs_theorems.proofs.snapshots.told_parents_are_known.Goals as goal

pub returns : goal.returns
returns c = λ p h run. run_tells_known p h run
