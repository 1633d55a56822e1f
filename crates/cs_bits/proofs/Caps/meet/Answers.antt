use Rattle.cs_bits.proofs.Members.{Has-meet}
use Rattle.cs_bits.proofs.Caps.meet.Goals as goal

pub returns-clause-members : goal.returns-clause-members
returns-clause-members c = λ k. rw (c.intersection.ensures tt) (Has-meet c.args.self c.args.other k)
