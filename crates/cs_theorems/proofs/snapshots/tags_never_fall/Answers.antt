use Rattle.cs_theorems.proofs.Course.{course_run}
use Rattle.cs_theorems.proofs.Writers.{tags_fall}
use Rattle.cs_theorems.proofs.snapshots.tags_never_fall.Goals as goal

pub returns : goal.returns
returns c = λ p h run. tags_fall h (course_run p h run).order
