use Rattle.std.proofs.Common.{refl}
use Rattle.cs_capsnap.specs.CapSnaps.{queued}
use Rattle.cs_capsnap.proofs.Changes.{greatest_push, greatest_finished, greatest_sent, greatest_left}
use Rattle.cs_capsnap.proofs.laws.only_sending_raises_the_greatest_number.Goals as goal

pub returns-clause-queue : goal.returns-clause-queue
returns-clause-queue c = λ xs old writing meta. greatest_push xs (queued old writing meta) refl

pub returns-clause-finish : goal.returns-clause-finish
returns-clause-finish c = greatest_finished

pub returns-clause-sent : goal.returns-clause-sent
returns-clause-sent c = greatest_sent

pub returns-clause-acked : goal.returns-clause-acked
returns-clause-acked c = greatest_left
