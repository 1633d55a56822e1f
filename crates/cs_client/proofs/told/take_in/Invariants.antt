use Rattle.cs_snapctx.specs.Records.{with_records}
use Rattle.cs_client.specs.Told.{OthersStay}
use Rattle.cs_client.proofs.TakenIn.{Rest}
use Rattle.cs_client.proofs.told.take_in.Given as goal

abbrev pub invariant-loop-record : goal.invariant-loop-record
invariant-loop-record l = record {
  rest : Rest l.told l.record-index l.realms (with_records l.told l.fn.realms);
  stay : OthersStay l.touched.items l.fn.realms l.realms;
}
