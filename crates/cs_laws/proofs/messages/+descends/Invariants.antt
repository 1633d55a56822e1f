use Rattle.std.proofs.Common.{length}
use Rattle.cs_laws.proofs.messages.+descends.Given as goal

abbrev pub decreases-descends : goal.decreases-descends
decreases-descends l = length l.snaps.now
