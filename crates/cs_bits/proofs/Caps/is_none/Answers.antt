use Rattle.cs_bits.proofs.Members.{is_empty-Has}
use Rattle.cs_bits.proofs.Caps.is_none.Goals as goal

pub returns-clause-members : goal.returns-clause-members
returns-clause-members c = is_empty-Has c.args.self
