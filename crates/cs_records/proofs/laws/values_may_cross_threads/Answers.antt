use Rattle.cs_records.proofs.records.Records.TheSendSync as records
use Rattle.cs_records.proofs.laws.values_may_cross_threads.Goals as goal

pub returns : goal.returns
returns c = records.the_send
