use Rattle.std.proofs.Common.{sym, subst}
use Rattle.cs_client.specs.Told.{OthersStay}
use Rattle.cs_client.proofs.Touched.{files_stay}
use Rattle.cs_client.proofs.messages.deliver_realms.Goals as goal

pub change_all-requires-clause-stay : goal.change_all-requires-clause-stay
change_all-requires-clause-stay c had =
    files_stay c.args.tree.now c.args.realms.now c.take_in.new.realms c.args.files.now c.as_slice.result.now (c.requires.before had)
    (subst (λ ts. OthersStay ts c.args.realms.now c.take_in.new.realms) (sym c.as_slice.ensures.value) c.in_ok-touched.ensures.touched)
