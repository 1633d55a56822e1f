use Rattle.std.proofs.Common.{refl}
use Rattle.cs_trim.proofs.Holding.{ok_taken}
use Rattle.cs_trim.proofs.store.TrimStore.snap.Goals as goal

pub returns-clause-follows : goal.returns-clause-follows
returns-clause-follows c = ok_taken c.take.result _ c.args.self.now _ c.self.view_is c.take.ensures.count c.take.ensures.status refl
