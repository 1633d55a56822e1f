use Rattle.cs_flush.proofs.Retired.{left_above, later_stays, retired_in_front}
use Rattle.cs_flush.proofs.laws.an_ack_leaves_the_later_flushes.Goals as goal

pub returns-clause-gone : goal.returns-clause-gone
returns-clause-gone c = left_above

pub returns-clause-stays : goal.returns-clause-stays
returns-clause-stays c = later_stays

pub returns-clause-front : goal.returns-clause-front
returns-clause-front c = retired_in_front
