use Rattle.cs_theorems.proofs.Uses.{uses_issued}
use Rattle.cs_theorems.proofs.references.uses_are_issued.Goals as goal

pub returns : goal.returns
returns c = uses_issued
