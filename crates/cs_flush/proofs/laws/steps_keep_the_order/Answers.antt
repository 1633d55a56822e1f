use Rattle.cs_flush.proofs.Rising.{rising_started, rising_acked}
use Rattle.cs_flush.proofs.laws.steps_keep_the_order.Goals as goal

pub returns-clause-start : goal.returns-clause-start
returns-clause-start c =
    λ f tid follows meta r h. rising_started f.unacked (record { tid = tid; follows = follows; meta = meta }) r h

pub returns-clause-ack : goal.returns-clause-ack
returns-clause-ack c = λ xs tid r. rising_acked tid xs r
