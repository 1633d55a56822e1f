use Rattle.std.proofs.Common.{position, ◌∙◌, ap, subst, sym}
use Rattle.cs_snapctx.specs.Records.{AreDistinct, is_of}
use Rattle.cs_realms.proofs.Once.{once_taken}
use Rattle.cs_realms.proofs.Places.{no_place}
use Rattle.cs_realms.proofs.realms.Realms.apply.Goals as goal

pub add-requires : goal.add-requires
add-requires c =
    rw (← c.self.view_is)
    (no_place c.args.r.now.realm c.self.inside.records.items (sym (c.place_of.ensures ∙ ap (position (is_of c.args.r.now.realm)) c.as_slice-2.ensures.value) ∙ c.in-None.is))

pub returns-in_ok-replace-in-Some-place_of-clause-each : goal.returns-in_ok-replace-in-Some-place_of-clause-each
returns-in_ok-replace-in-Some-place_of-clause-each c =
    once_taken c.args.r.now c.args.self.now c.replace.new.self c.in_ok-replace-in-Some-place_of.field-0 (subst AreDistinct c.self.view_is c.self.invariant.distinct)
    c.in_ok-replace-in-Some-place_of.ensures.records c.in_ok-replace-in-Some-place_of.ensures.changed

pub returns-in_ok-add-in-None-clause-each : goal.returns-in_ok-add-in-None-clause-each
returns-in_ok-add-in-None-clause-each c =
    once_taken c.args.r.now c.args.self.now c.add.new.self c.in_ok-add-in-None.field-0 (subst AreDistinct c.self.view_is c.self.invariant.distinct)
    c.in_ok-add-in-None.ensures.records c.in_ok-add-in-None.ensures.changed
