use Rattle.std.proofs.Common.{◌≡◌, ◌-◌, true, length, refl, sym, ap, ◌∙◌, arith, rules, tests}
use Rattle.std.proofs.lemmas.Fn.{filter_same}
use Rattle.cs_flush.specs.Flushes.{has_tid, retired, retired_count}
use Rattle.cs_flush.proofs.Retired.{retired_counted}
use Rattle.cs_flush.proofs.Rising.{retired_few, rising_retired}
use Rattle.cs_flush.proofs.flushes.Flushes.ack.Goals as goal

left : (c : goal.After-len) → c.retain.new.self.items ≡ retired c.args.tid c.self.inside.unacked.items
left c = filter_same _ _ _ (λ x b f' k. search (rules, tests)) _ _ c.retain.ensures.filtered

counted : (c : goal.After-len) → c.len-before.result - c.len.result ≡ retired_count c.args.tid c.self.inside.unacked.items
counted c =
    omega (arith, retired_counted c.args.tid c.self.inside.unacked.items, ap length (left c), c.retain.new.self.ok, c.self.inside.unacked.ok)

has : (c : goal.After-len) → has_tid c.args.tid c.self.inside.unacked.items ≡ true
has c =
    let is = rw (← c.self.view_is) at c.is_unacked.ensures in
    sym is ∙ c.if-not-is_unacked.false

pub overflow_cast-result : goal.overflow_cast-result
overflow_cast-result c =
    omega (arith, counted c, retired_few c.args.tid c.self.inside.unacked.items c.self.invariant, c.get-last.ensures.range)

pub invariant_of-self : goal.invariant_of-self
invariant_of-self c = rw (left c) (rising_retired c.args.tid c.self.inside.unacked.items c.self.invariant)

pub returns-clause-answer : goal.returns-clause-answer
returns-clause-answer c = rw (← c.self.view_is, counted c, has c) refl

pub returns-clause-after : goal.returns-clause-after
returns-clause-after c = rw (← c.self.view_is, has c, left c) refl
