use Rattle.std.proofs.Common.{arith}
use Rattle.cs_bits.specs.Bits.{letters_of}
use Rattle.cs_bits.proofs.Writing.{nothing_put, put_capital}
use Rattle.cs_bits.proofs.Caps.put_group.Goals as goal

pub returns-then-behind-end-clause-rest : goal.returns-then-behind-end-clause-rest
returns-then-behind-end-clause-rest c =
    nothing_put c.args.end c.put_letters-behind.result c.args.out.now c.put_letters-behind.new.out
    (letters_of c.args.self.now c.args.letters.now)
    c.put_letters-behind.ensures.text
    c.put_letters-behind.ensures.len
    c.put_letters-behind.ensures.rest
    c.if-behind-end.true

pub returns-clause-text : goal.returns-clause-text
returns-clause-text c =
    put_capital c.args.end c.put_letters-behind.result c.args.capital c.args.out.now c.put_letters-behind.new.out
    (letters_of c.args.self.now c.args.letters.now)
    c.put_letters-behind.ensures.text
    c.put_letters-behind.ensures.len
    c.if-behind-end.false
    (omega arith)
    (omega arith)
