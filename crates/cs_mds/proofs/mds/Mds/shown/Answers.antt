use Rattle.std.proofs.Common.{sym}
use Rattle.cs_mds.proofs.mds.Mds.shown.Goals as goal

pub shown_at-requires : goal.shown_at-requires
shown_at-requires c = c.self.invariant.homes c.args.file c.in-Some.home.now (sym c.in-Some.ensures.value)
