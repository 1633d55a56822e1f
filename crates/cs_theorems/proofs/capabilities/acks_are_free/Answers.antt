use Rattle.cs_theorems.proofs.AcksFree.{acks_free}
use Rattle.cs_theorems.proofs.capabilities.acks_are_free.Goals as goal

pub returns : goal.returns
returns c = acks_free
