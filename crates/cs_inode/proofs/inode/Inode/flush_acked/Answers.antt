use Rattle.cs_inode.proofs.Apart.{apart_acked}
use Rattle.cs_inode.proofs.inode.Inode.flush_acked.Goals as goal

pub invariant_of-self : goal.invariant_of-self
invariant_of-self c =
    let i = c.self.inside in
    rw (c.ack.ensures.after, c.acked.ensures.after) (apart_acked i.flushes.unacked c.args.tid i.snaps c.self.invariant)
