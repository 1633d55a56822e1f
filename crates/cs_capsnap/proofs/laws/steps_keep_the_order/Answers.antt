use Rattle.std.proofs.Common.{refl}
use Rattle.cs_capsnap.specs.CapSnaps.{queued}
use Rattle.cs_capsnap.proofs.Order.{order_push, order_finished, order_sent, order_left}
use Rattle.cs_capsnap.proofs.laws.steps_keep_the_order.Goals as goal

pub returns-clause-queue : goal.returns-clause-queue
returns-clause-queue c = λ xs old writing meta o w. order_push xs (queued old writing meta) refl w o

pub returns-clause-finish : goal.returns-clause-finish
returns-clause-finish c = λ xs size mtime o. order_finished size mtime xs o

pub returns-clause-sent : goal.returns-clause-sent
returns-clause-sent c = λ xs tid o can above. order_sent tid xs can above o

pub returns-clause-acked : goal.returns-clause-acked
returns-clause-acked c = λ xs tid o. order_left tid xs o
