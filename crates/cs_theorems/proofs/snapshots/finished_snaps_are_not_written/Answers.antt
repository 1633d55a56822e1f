use Rattle.cs_theorems.proofs.Course.{course_run}
use Rattle.cs_theorems.proofs.Writers.{not_written}
use Rattle.cs_theorems.proofs.snapshots.finished_snaps_are_not_written.Goals as goal

pub returns : goal.returns
returns c = λ p h run. not_written h (course_run p h run).order
