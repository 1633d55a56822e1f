use Rattle.std.proofs.Common.{arith}
use Rattle.cs_snapctx.specs.Records.{with_records}
use Rattle.cs_client.proofs.TakenIn.{next_known, rest_done, rest_first, rest_next}
use Rattle.cs_client.proofs.Touched.{others_first, others_next}
use Rattle.cs_client.proofs.told.take_in.Goals as goal

pub loop-record-init : goal.loop-record-init
loop-record-init c = record {
  rest = rest_first c.args.told.now c.args.realms.now c.requires;
  stay = others_first c.new-touched.result.items c.args.realms.now;
}

pub take_one-requires : goal.take_one-requires
take_one-requires c =
    next_known c.args.told.now c.loop-record.record-index c.loop-record.realms (with_records c.args.told.now c.args.realms.now) c.record-item.result
    c.loop-record-test.true c.record-item.is c.loop-record.invariant.rest

pub loop-record-preserved : goal.loop-record-preserved
loop-record-preserved c = record {
  rest =
      rest_next c.args.told.now c.loop-record.record-index c.loop-record.realms (with_records c.args.told.now c.args.realms.now) c.take_one.new.realms
      c.record-item.result c.loop-record-test.true c.record-item.is c.in_ok-take_one.ensures.records c.loop-record.invariant.rest;
  stay =
      others_next c.loop-record.touched.items c.take_one.new.touched.items c.args.realms.now c.loop-record.realms c.take_one.new.realms
      c.loop-record.invariant.stay c.in_ok-take_one.ensures.touched;
}

pub returns-clause-records : goal.returns-clause-records
returns-clause-records c =
    rest_done c.args.told.now c.loop-record.record-index c.loop-record.realms (with_records c.args.told.now c.args.realms.now)
    (omega (arith, c.loop-record-test.false)) c.loop-record.invariant.rest
