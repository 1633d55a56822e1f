use Rattle.std.proofs.Common.{◌<◌, ◌∙◌, ap, arith, sym}
use Rattle.std.specs.Option.{option_copied}
use Rattle.cs_snapctx.specs.Contexts.{under}
use Rattle.cs_snapctx.specs.Records.{with_record}
use Rattle.cs_realms.proofs.Steps.{at_top, below_parent, ok_is}
use Rattle.cs_realms.proofs.context.+context_within.Goals as goal

pub returns-in-None : goal.returns-in-None
returns-in-None t c =
    let some : 0 < c.args.most = omega arith in
    let top = at_top c.args.most (with_record c.args.latest.now c.args.records.now) c.args.from.now some (sym c.parent_record_with.ensures ∙ ap option_copied c.in-None.is) in
    ok_is _ _ _ (ap (λ above. under above c.args.from.now) c.empty-in-None.ensures ∙ sym top) c.under-in-None.ensures

pub returns-in_ok-above-in-Some : goal.returns-in_ok-above-in-Some
returns-in_ok-above-in-Some t c =
    let some : 0 < c.args.most = omega arith in
    let below = below_parent c.args.most (with_record c.args.latest.now c.args.records.now) c.args.from.now c.in-Some.parent.now some (sym c.parent_record_with.ensures ∙ ap option_copied c.in-Some.is) in
    ok_is _ _ _ (ap (λ above. under above c.args.from.now) c.in_ok-above-in-Some.ensures ∙ sym below) c.under-in-Some.ensures
