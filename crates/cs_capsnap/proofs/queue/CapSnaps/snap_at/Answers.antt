use Rattle.std.proofs.Common.{ap, sym, ◌∙◌}
use Rattle.std.specs.Option.{option_and_then}
use Rattle.cs_capsnap.specs.CapSnaps.{flush}
use Rattle.cs_capsnap.proofs.Steps.{looked_up}
use Rattle.cs_capsnap.proofs.Unacked.{unacked_at}
use Rattle.cs_capsnap.proofs.queue.CapSnaps.snap_at.Goals as goal

pub returns-clause-value : goal.returns-clause-value
returns-clause-value c =
    let snaps = c.self.inside.snaps in
    rw (← c.self.view_is) (looked_up snaps.items snaps.len c.args.place c.get.result snaps.ok.0 c.get.ensures.variant c.get.ensures.lookup)

pub returns-clause-unacked : goal.returns-clause-unacked
returns-clause-unacked c =
    let snaps = c.self.inside.snaps in
    let value = looked_up snaps.items snaps.len c.args.place c.get.result snaps.ok.0 c.get.ensures.variant c.get.ensures.lookup in
    rw (← c.self.view_is) (ap (option_and_then flush) value ∙ sym (unacked_at c.args.place snaps.items c.self.invariant.order))
