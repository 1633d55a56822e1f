use Rattle.cs_realms.proofs.changed.Change.TheSendSync as change
use Rattle.cs_realms.proofs.realms.Realms.TheSendSync as realms
use Rattle.cs_realms.proofs.laws.values_may_cross_threads.Goals as goal

pub returns-clause-tree : goal.returns-clause-tree
returns-clause-tree c = realms.the_send

pub returns-clause-changes : goal.returns-clause-changes
returns-clause-changes c = change.the_send
