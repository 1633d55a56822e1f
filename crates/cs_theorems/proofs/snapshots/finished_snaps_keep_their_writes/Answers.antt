use Rattle.cs_theorems.proofs.Past.{keep_their_writes}
use Rattle.cs_theorems.proofs.snapshots.finished_snaps_keep_their_writes.Goals as goal

pub returns : goal.returns
returns c = keep_their_writes
