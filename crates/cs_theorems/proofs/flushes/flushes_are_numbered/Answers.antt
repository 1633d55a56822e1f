use Rattle.cs_theorems.proofs.FlushReplays.{flushes_numbered}
use Rattle.cs_theorems.proofs.flushes.flushes_are_numbered.Goals as goal

pub returns : goal.returns
returns c = flushes_numbered
