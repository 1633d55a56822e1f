use Rattle.std.proofs.Common.{arith}
use Rattle.cs_bits.proofs.Members.{Has-minus}
use Rattle.cs_bits.proofs.Caps.minus.Goals as goal

pub returns-clause-members : goal.returns-clause-members
returns-clause-members c = λ k. rw (c.difference.ensures tt) (Has-minus c.args.self c.args.other k (omega arith) (omega arith))
