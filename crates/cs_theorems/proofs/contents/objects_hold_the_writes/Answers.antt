use Rattle.cs_theorems.proofs.Agreeing.{run_holds}
use Rattle.cs_theorems.proofs.contents.objects_hold_the_writes.Goals as goal

pub returns : goal.returns
returns c = run_holds
