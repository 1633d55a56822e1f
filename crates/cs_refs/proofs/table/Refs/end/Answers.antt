use Rattle.std.proofs.Common.{◌≡◌, ◌∙◌, ap, is_some, arith}
use Rattle.std.specs.Map.{values_of}
use Rattle.cs_parts.specs.References.{ref_named}
use Rattle.cs_refs.proofs.Entries.{lookup-named, values_of-without, each-without, is_some-ref_named}
use Rattle.cs_refs.proofs.table.Refs.end.Goals as goal

pub invariant_of-self : goal.invariant_of-self
invariant_of-self c =
    record {
      each = rw c.shift_remove.ensures.entries (each-without _ _ _ c.self.invariant.each);
      few = omega (arith, c.shift_remove.ensures.len, c.self.invariant.few);
    }

ended_one : (c : goal.After-shift_remove) → c.shift_remove.result ≡ ref_named c.args.caller c.args.number c.args.self.now.live
ended_one c =
    rw (← c.self.view_is) (c.shift_remove.ensures.value ∙ lookup-named _ c.args.caller c.args.number _ c.self.invariant.each)

pub returns-clause-ended : goal.returns-clause-ended
returns-clause-ended c = ended_one c

pub returns-clause-lived : goal.returns-clause-lived
returns-clause-lived c = ap is_some (ended_one c) ∙ is_some-ref_named c.args.caller c.args.number c.args.self.now.live

pub returns-clause-live : goal.returns-clause-live
returns-clause-live c =
    rw (← c.self.view_is) (ap values_of c.shift_remove.ensures.entries ∙ values_of-without _ c.args.caller c.args.number _ c.self.invariant.each)
