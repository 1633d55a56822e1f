use Rattle.cs_theorems.proofs.Course.{course_run}
use Rattle.cs_theorems.proofs.Writers.{queues_rise}
use Rattle.cs_theorems.proofs.snapshots.follows_rise.Goals as goal

pub returns : goal.returns
returns c = λ p h run. queues_rise h (course_run p h run).order
