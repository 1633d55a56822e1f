use Rattle.cs_theorems.proofs.Agreeing.{reads_back}
use Rattle.cs_theorems.proofs.metadata.states_read_back.Goals as goal

pub returns : goal.returns
returns c = reads_back
