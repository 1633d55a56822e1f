use Rattle.cs_flush.proofs.Rising.{greatest_started, greatest_acked}
use Rattle.cs_flush.proofs.laws.only_start_raises_the_greatest_number.Goals as goal

pub returns-clause-start : goal.returns-clause-start
returns-clause-start c =
    λ f tid follows meta. greatest_started f.unacked (record { tid = tid; follows = follows; meta = meta })

pub returns-clause-ack : goal.returns-clause-ack
returns-clause-ack c = λ xs tid. greatest_acked tid xs
