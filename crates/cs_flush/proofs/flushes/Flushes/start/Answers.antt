use Rattle.cs_flush.proofs.Rising.{rising_started}
use Rattle.cs_flush.proofs.flushes.Flushes.start.Goals as goal

pub invariant_of-self-2 : goal.invariant_of-self-2
invariant_of-self-2 c =
    let above = rw (← c.self.view_is) at c.requires in
    rw c.in_ok-push.ensures.items (rising_started c.self.inside.unacked.items _ c.self.invariant above)
