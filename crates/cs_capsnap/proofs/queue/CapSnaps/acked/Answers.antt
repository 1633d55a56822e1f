use Rattle.std.proofs.Common.{◌≡◌, sym, ◌∙◌}
use Rattle.std.specs.List.{remove}
use Rattle.cs_capsnap.proofs.Places.{found_place, taken_out, some_then, IsTakenOut}
use Rattle.cs_capsnap.proofs.queue.CapSnaps.acked.Goals as goal

pub overflow_sub-self : goal.overflow_sub-self
overflow_sub-self c =
    let snaps = c.self.inside.snaps in
    let e = rw (← c.self.view_is) at (sym c.place_of.ensures ∙ c.in-Some.is) in
    (taken_out c.args.tid c.self.inside.next c.in-Some.place snaps.items e c.self.invariant).above

left : (c : goal.After-self-1) → IsTakenOut c.args.tid c.self.inside.next c.remove.new.self.items
left c =
    let snaps = c.self.inside.snaps in
    let e = rw (← c.self.view_is) at (sym c.place_of.ensures ∙ c.in-Some.is) in
    let place = found_place c.args.tid c.in-Some.place snaps.items e in
    let items : c.remove.new.self.items ≡ remove snaps.items c.in-Some.place =
    some_then c.remove.result (c.remove.ensures.variant.1 (rw snaps.ok.0 place.within)) c.remove.ensures.items in
    rw items (taken_out c.args.tid c.self.inside.next c.in-Some.place snaps.items e c.self.invariant)

pub invariant_of-self : goal.invariant_of-self
invariant_of-self c = (left c).kept

pub returns-clause-gone : goal.returns-clause-gone
returns-clause-gone c = (left c).gone
