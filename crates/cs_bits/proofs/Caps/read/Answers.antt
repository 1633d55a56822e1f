use Rattle.std.proofs.Common.{sym, take}
use Rattle.cs_bits.proofs.Reading.{accepted, rejected, read_is_text, unread_is_no_text}
use Rattle.cs_bits.proofs.Caps.read.Goals as goal

pub returns-then-eq-clause-value : goal.returns-then-eq-clause-value
returns-then-eq-clause-value c =
    accepted c.args.text.now (take c.to_text-end.result c.to_text-end.new.out) c.named-set.result c.eq.result c.named-set.ensures c.to_text-end.ensures.text c.eq.ensures c.if-eq.true

pub returns-then-eq-clause-found : goal.returns-then-eq-clause-found
returns-then-eq-clause-found c =
    read_is_text c.args.text.now c.named-set.result
    (sym (accepted c.args.text.now (take c.to_text-end.result c.to_text-end.new.out) c.named-set.result c.eq.result c.named-set.ensures c.to_text-end.ensures.text c.eq.ensures c.if-eq.true))

pub returns-else-eq-clause-value : goal.returns-else-eq-clause-value
returns-else-eq-clause-value c =
    rejected c.args.text.now (take c.to_text-end.result c.to_text-end.new.out) c.named-set.result c.eq.result c.named-set.ensures c.to_text-end.ensures.text c.eq.ensures c.if-eq.false

pub returns-else-eq-clause-none : goal.returns-else-eq-clause-none
returns-else-eq-clause-none c =
    unread_is_no_text c.args.text.now
    (sym (rejected c.args.text.now (take c.to_text-end.result c.to_text-end.new.out) c.named-set.result c.eq.result c.named-set.ensures c.to_text-end.ensures.text c.eq.ensures c.if-eq.false))
