use Rattle.cs_theorems.proofs.HeldCovers.{held_covers}
use Rattle.cs_theorems.proofs.capabilities.held_covers_implemented.Goals as goal

pub returns : goal.returns
returns c = held_covers
