use Rattle.cs_theorems.proofs.Course.{course_run}
use Rattle.cs_theorems.proofs.Writers.{only_the_last}
use Rattle.cs_theorems.proofs.snapshots.only_the_last_is_writing.Goals as goal

pub returns : goal.returns
returns c = λ p h run. only_the_last h (course_run p h run).order
