use Rattle.cs_theorems.proofs.OnceStanding.{flushes_once}
use Rattle.cs_theorems.proofs.flushes.flushes_stand_once.Goals as goal

pub returns : goal.returns
returns c = flushes_once
