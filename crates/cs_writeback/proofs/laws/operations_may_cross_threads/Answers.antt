use Rattle.cs_writeback.proofs.operations.OpsInFlight.TheSendSync as operations
use Rattle.cs_writeback.proofs.laws.operations_may_cross_threads.Goals as goal

pub returns : goal.returns
returns c = operations.the_send
