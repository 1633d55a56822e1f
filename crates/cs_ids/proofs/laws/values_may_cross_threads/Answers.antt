use Rattle.cs_ids.proofs.bytes.Bytes.TheSendSync as bytes
use Rattle.cs_ids.proofs.names.Name.TheSendSync as name
use Rattle.cs_ids.proofs.laws.values_may_cross_threads.Goals as goal

pub returns-clause-lists : goal.returns-clause-lists
returns-clause-lists c = (bytes.the_send, name.the_send)
