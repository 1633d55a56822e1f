use Rattle.cs_client.proofs.client.Client.TheSendSync as client
use Rattle.cs_client.proofs.laws.clients_may_cross_threads.Goals as goal

pub returns : goal.returns
returns c = client.the_send
