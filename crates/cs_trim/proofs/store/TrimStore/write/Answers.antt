use Rattle.cs_trim.proofs.Holding.{ok_wrote}
use Rattle.cs_trim.proofs.store.TrimStore.write.Goals as goal

pub returns-clause-ok : goal.returns-clause-ok
returns-clause-ok c =
    ok_wrote c.write_object.result c.args.b c.args.off c.args.bytes.now c.args.self.now c.extend.new.self c.write_object.new.self
    c.in_ok-extend.ensures.same c.write_object.ensures.ok
