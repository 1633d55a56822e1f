use Rattle.cs_snapctx.proofs.context.SnapContext.TheSendSync as snap_context
use Rattle.cs_snapctx.proofs.list.SnapList.TheSendSync as snap_list
use Rattle.cs_snapctx.proofs.realm.RealmRecord.TheSendSync as realm_record
use Rattle.cs_snapctx.proofs.laws.values_may_cross_threads.Goals as goal

pub returns-clause-contexts : goal.returns-clause-contexts
returns-clause-contexts c = (snap_context.the_send, snap_list.the_send)

pub returns-clause-records : goal.returns-clause-records
returns-clause-records c = realm_record.the_send
