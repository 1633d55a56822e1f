use Rattle.cs_theorems.proofs.Agreeing.{states_hold}
use Rattle.cs_theorems.proofs.contents.states_hold_the_writes.Goals as goal

pub returns : goal.returns
returns c = states_hold
