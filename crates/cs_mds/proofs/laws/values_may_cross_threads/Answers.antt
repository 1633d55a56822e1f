use Rattle.cs_mds.proofs.mds.Mds.TheSendSync as mds
use Rattle.cs_mds.proofs.laws.values_may_cross_threads.Goals as goal

pub returns : goal.returns
returns c = mds.the_send
