use Rattle.cs_theorems.proofs.Course.{course_run}
use Rattle.cs_theorems.proofs.snapshots.tags_are_of_the_begin.Goals as goal

pub returns : goal.returns
returns c = λ p h run. (course_run p h run).shares
