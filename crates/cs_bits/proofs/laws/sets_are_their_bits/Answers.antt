use Rattle.cs_bits.proofs.Members.{Has-union, Has-meet, Has-minus, covers-Has, same_members}
use Rattle.cs_bits.proofs.laws.sets_are_their_bits.Goals as goal

pub returns : goal.returns
returns c = record { union = Has-union; meet = Has-meet; minus = Has-minus; covers = covers-Has; same = same_members }
