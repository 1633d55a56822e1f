use Rattle.cs_theorems.proofs.Course.{course_run}
use Rattle.cs_theorems.proofs.Shares.{began_under}
use Rattle.cs_theorems.proofs.snapshots.writers_share_a_context.Goals as goal

pub returns : goal.returns
returns c = λ p h run. let i = course_run p h run in began_under h i.order i.contexts i.shares
