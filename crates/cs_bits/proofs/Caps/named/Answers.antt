use Rattle.std.proofs.Common.{◌∙◌, ap, sym}
use Rattle.cs_bits.specs.Bits.{named, pin_letters}
use Rattle.cs_bits.proofs.Reading.{named_on_capital, named_on_letter, named_at_end}
use Rattle.cs_bits.proofs.Caps.named.Goals as goal
use Rattle.cs_bits.proofs.Caps.named.Goals.{in-Some, in-None}

pub loop-byte-preserved : goal.loop-byte-preserved
loop-byte-preserved c =
    elim c.match-group_of.branch [
      | in-Some w ↦ named_on_capital c.args.text.now c.loop-byte.byte-index c.loop-byte.set c.match-group_of.set c.loop-byte.letters.now c.match-group_of.letters.now w.in-Some.group.now
          (named pin_letters c.args.text.now)
          c.loop-byte-test.true
          (sym w.in-Some.ensures)
          w.set-is
          (ap (λ b. b.now) w.letters-is)
          c.loop-byte.invariant
      | in-None w ↦ named_on_letter c.args.text.now c.loop-byte.byte-index c.loop-byte.set c.match-group_of.set w.cap_of.result c.loop-byte.letters.now c.match-group_of.letters.now
          (named pin_letters c.args.text.now)
          c.loop-byte-test.true
          (sym w.in-None.ensures)
          w.cap_of.ensures
          (w.set-is ∙ w.union-set.ensures.value)
          (ap (λ b. b.now) w.letters-is)
          c.loop-byte.invariant
    ]

pub returns : goal.returns
returns c = named_at_end c.args.text.now c.loop-byte.byte-index c.loop-byte.set c.loop-byte.letters.now (named pin_letters c.args.text.now) c.loop-byte-test.false c.loop-byte.invariant
