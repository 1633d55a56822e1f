use Rattle.cs_capsnap.proofs.queue.CapSnaps.TheSendSync as cap_snaps
use Rattle.cs_capsnap.proofs.snap.CapSnap.TheSendSync as cap_snap
use Rattle.cs_capsnap.proofs.snap.Ready.TheSendSync as ready
use Rattle.cs_capsnap.proofs.laws.values_may_cross_threads.Goals as goal

pub returns-clause-queue : goal.returns-clause-queue
returns-clause-queue c = cap_snaps.the_send

pub returns-clause-snaps : goal.returns-clause-snaps
returns-clause-snaps c = (cap_snap.the_send, ready.the_send)
