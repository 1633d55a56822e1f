use Rattle.cs_theorems.proofs.OnceStanding.{once_later}
use Rattle.cs_theorems.proofs.flushes.acked_flushes_stay.Goals as goal

pub returns : goal.returns
returns c = once_later
