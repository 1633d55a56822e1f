use Rattle.cs_mdslog.proofs.memory.MemLog.TheSendSync as mem_log
use Rattle.cs_mdslog.proofs.faulty.FaultyLog.TheSendSync as faulty_log
use Rattle.cs_mdslog.proofs.laws.values_may_cross_threads.Goals as goal

pub returns : goal.returns
returns c = (mem_log.the_send, faulty_log.the_send)
