use Rattle.std.proofs.Common.{◌∙◌, None, Some}
use Rattle.cs_leases.proofs.Listed.{answer-listed}
use Rattle.cs_leases.proofs.leases.Leases.lookup.Goals as goal

pub returns-in-None : goal.returns-in-None
returns-in-None c =
    let found = rw c.new.ensures at c.in-None.ensures.value in
    rw (← c.self.view_is) (answer-listed c.args.dir c.args.name.now c.args.now _ None found)

pub returns-in-Some : goal.returns-in-Some
returns-in-Some c =
    let found = rw c.new.ensures at c.in-Some.ensures.value in
    c.answer.ensures ∙ rw (← c.self.view_is) (answer-listed c.args.dir c.args.name.now c.args.now _ (Some c.in-Some.lease.now) found)
