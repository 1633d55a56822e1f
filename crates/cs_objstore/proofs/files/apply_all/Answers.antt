use Rattle.std.proofs.Common.{arith}
use Rattle.cs_objstore.proofs.Applying.{any_err, front_of, one_more}
use Rattle.cs_objstore.proofs.files.apply_all.Goals as goal

pub returns-in_err-apply-clause-front : goal.returns-in_err-apply-clause-front
returns-in_err-apply-clause-front g c =
    any_err c.from_residual.result
    (front_of c.args.ops.now c.loop-op.op-index (g.O.ObjStore.ops c.args.store.now) (g.O.ObjStore.ops c.loop-op.store) (g.O.ObjStore.ops c.apply.new.store)
    c.loop-op.invariant.applied c.in_err-apply.ensures.err)

pub loop-op-preserved : goal.loop-op-preserved
loop-op-preserved g c = record {
  applied =
      one_more c.args.ops.now c.loop-op.op-index c.op-item.result (g.O.ObjStore.ops c.args.store.now) (g.O.ObjStore.ops c.loop-op.store)
      (g.O.ObjStore.ops c.apply.new.store) c.loop-op-test.true c.op-item.is c.loop-op.invariant.applied c.in_ok-apply.ensures.ok;
  later = omega (arith, c.loop-op.invariant.later, c.in_ok-apply.ensures.faults.later);
}
