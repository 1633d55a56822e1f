use Rattle.cs_flush.proofs.Retired.{last_leaves_none, last_counts_all}
use Rattle.cs_flush.proofs.laws.an_ack_of_the_last_leaves_none.Goals as goal

pub returns-clause-after : goal.returns-clause-after
returns-clause-after c =
    λ f tid follows meta h. last_leaves_none f.unacked (record { tid = tid; follows = follows; meta = meta }) h

pub returns-clause-count : goal.returns-clause-count
returns-clause-count c =
    λ f tid follows meta h. last_counts_all f.unacked (record { tid = tid; follows = follows; meta = meta }) h
