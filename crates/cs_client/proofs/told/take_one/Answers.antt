use Rattle.std.proofs.Common.{◌≡◌, ◌∙◌, sym, ap, Some, None, Err}
use Rattle.cs_client.proofs.Touched.{touches}
use Rattle.cs_client.proofs.told.take_one.Goals as goal

pub unreachable-requires : goal.unreachable-requires
unreachable-requires c =
    let missing = (c.apply.ensures.no_parent c.in-Err-NoParent.field-0-0).0 (c.in-Err-NoParent.is ∙ ap Err c.in-Err-NoParent.field-0-is) in
    let never : None ≡ Some c.in-Err-NoParent.field-0-0 = sym c.requires ∙ missing in
    cc

pub returns-in_ok-touch-in-Ok-clause-touched : goal.returns-in_ok-touch-in-Ok-clause-touched
returns-in_ok-touch-in-Ok-clause-touched c =
    touches c.args.told.now c.args.realms.now c.apply.new.self c.in-Ok.changed c.args.touched.now.items c.touch.new.touched.items
    c.in-Ok.ensures.records c.in-Ok.ensures.each c.in_ok-touch-in-Ok.ensures
