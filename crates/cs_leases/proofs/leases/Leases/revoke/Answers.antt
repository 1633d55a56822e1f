use Rattle.std.proofs.Common.{None}
use Rattle.cs_leases.proofs.Listed.{lease_on-changed}
use Rattle.cs_leases.proofs.leases.Leases.revoke.Goals as goal

pub returns : goal.returns
returns c =
    let updates = rw c.new.ensures at c.swap_remove-ended.ensures.updates.0 in
    rw (← c.self.view_is) (lease_on-changed _ _ c.args.dir c.args.name.now None updates)
