use Rattle.std.proofs.Common.{Some}
use Rattle.cs_leases.proofs.Listed.{lease_on-changed}
use Rattle.cs_leases.proofs.leases.Leases.take.Goals as goal

pub returns-clause-ok : goal.returns-clause-ok
returns-clause-ok c =
    let updates = rw c.new.ensures at c.in_ok-insert.ensures.updates.0 in
    rw (← c.self.view_is) (lease_on-changed _ _ c.args.dir c.args.name.now (Some _) updates)
