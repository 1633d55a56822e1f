use Rattle.cs_capsnap.specs.CapSnaps.{queued}
use Rattle.cs_capsnap.proofs.Changes.{writing_push, writing_finished, writing_sent, writing_left}
use Rattle.cs_capsnap.proofs.laws.writing_lasts_until_finish.Goals as goal

pub returns-clause-queue : goal.returns-clause-queue
returns-clause-queue c = λ xs old writing meta. writing_push xs (queued old writing meta)

pub returns-clause-finish : goal.returns-clause-finish
returns-clause-finish c = writing_finished

pub returns-clause-sent : goal.returns-clause-sent
returns-clause-sent c = writing_sent

pub returns-clause-acked : goal.returns-clause-acked
returns-clause-acked c = writing_left
