use Rattle.cs_codec.proofs.Own.{own}
use Rattle.cs_codec.proofs.laws.own_bytes.Goals as goal

pub returns : goal.returns
returns c = own
