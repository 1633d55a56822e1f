use Rattle.cs_mds.proofs.Whole.{whole_after}
use Rattle.cs_mds.proofs.requests.perform.Goals as goal

pub returns-clause-whole : goal.returns-clause-whole
returns-clause-whole c =
    whole_after c.args.names.now c.apply.new.self c.args.op.now c.args.answer c.requires.answer c.requires.whole
    c.in_ok-enter_made.ensures.known c.in_ok-enter_made.ensures.homes c.in_ok-apply.ensures.names
