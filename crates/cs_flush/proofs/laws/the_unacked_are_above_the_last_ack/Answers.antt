use Rattle.cs_flush.proofs.Lives.{unacked_after}
use Rattle.cs_flush.proofs.laws.the_unacked_are_above_the_last_ack.Goals as goal

pub returns : goal.returns
returns c = unacked_after
