use Rattle.std.proofs.Common.{[], ◌∷◌, ◌∙◌, ap, sym, length, arith, length-append}
use Rattle.std.proofs.Math.ListN.{length-set}
use Rattle.cs_realms.proofs.Places.{appended, placed}
use Rattle.cs_realms.proofs.record.count_with.Goals as goal

pub returns-in-None : goal.returns-in-None
returns-in-None c =
    let at_end = appended c.args.latest.now c.args.records.now (sym c.place_of.ensures ∙ c.in-None.is) in
    omega (arith, ap length at_end, length-append c.args.records.now (c.args.latest.now ∷ []))

pub returns-in-Some : goal.returns-in-Some
returns-in-Some c =
    let in_place = placed c.args.latest.now c.args.records.now c.in-Some.field-0 (sym c.place_of.ensures ∙ c.in-Some.is) in
    sym (length-set _ _ _) ∙ ap length in_place
