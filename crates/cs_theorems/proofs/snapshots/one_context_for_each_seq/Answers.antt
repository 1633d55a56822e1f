use Rattle.cs_theorems.proofs.Course.{course_run}
use Rattle.cs_theorems.proofs.Contexts.{one_context}
use Rattle.cs_theorems.proofs.snapshots.one_context_for_each_seq.Goals as goal

pub returns : goal.returns
returns c = λ p h run f. one_context h f (course_run p h run).contexts
