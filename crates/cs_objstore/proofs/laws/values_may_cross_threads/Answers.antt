use Rattle.cs_objstore.proofs.memory.MemStore.TheSendSync as mem_store
use Rattle.cs_objstore.proofs.faulty.FaultyStore.TheSendSync as faulty_store
use Rattle.cs_objstore.proofs.laws.values_may_cross_threads.Goals as goal

pub returns : goal.returns
returns c = (mem_store.the_send, faulty_store.the_send)
