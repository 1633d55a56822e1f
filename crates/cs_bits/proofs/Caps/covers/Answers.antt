use Rattle.cs_bits.proofs.Members.{covers-Has}
use Rattle.cs_bits.proofs.Caps.covers.Goals as goal

pub returns-clause-members : goal.returns-clause-members
returns-clause-members c = rw (c.contains.ensures tt) (covers-Has c.args.self c.args.other)
