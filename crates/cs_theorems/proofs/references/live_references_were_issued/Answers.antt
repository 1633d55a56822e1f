use Rattle.cs_theorems.proofs.Begun.{live_were_issued}
use Rattle.cs_theorems.proofs.references.live_references_were_issued.Goals as goal

pub returns : goal.returns
returns c = live_were_issued
