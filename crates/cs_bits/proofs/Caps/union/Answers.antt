use Rattle.cs_bits.proofs.Members.{Has-union}
use Rattle.cs_bits.proofs.Caps.union.Goals as goal

pub returns-clause-members : goal.returns-clause-members
returns-clause-members c = λ k. rw (c.union.ensures tt) (Has-union c.args.self c.args.other k)
