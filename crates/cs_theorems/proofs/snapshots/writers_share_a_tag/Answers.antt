use Rattle.cs_theorems.proofs.Course.{course_run}
use Rattle.cs_theorems.proofs.Writers.{share_a_tag}
use Rattle.cs_theorems.proofs.snapshots.writers_share_a_tag.Goals as goal

pub returns : goal.returns
returns c = λ p h run. share_a_tag h (course_run p h run).order
