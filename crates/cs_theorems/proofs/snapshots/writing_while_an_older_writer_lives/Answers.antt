use Rattle.cs_theorems.proofs.Course.{course_run}
use Rattle.cs_theorems.proofs.Writers.{writing_while_older}
use Rattle.cs_theorems.proofs.snapshots.writing_while_an_older_writer_lives.Goals as goal

pub returns : goal.returns
returns c = λ p h run. writing_while_older h (course_run p h run).order
