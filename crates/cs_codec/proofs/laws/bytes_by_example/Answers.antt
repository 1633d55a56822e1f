use Rattle.std.proofs.Common.{refl}
use Rattle.cs_codec.specs.Fields.{number_bytes}
use Rattle.cs_codec.proofs.laws.bytes_by_example.Goals as goal

pub returns : goal.returns
unfolding number_bytes
returns c = record { number = refl; name = refl; list = refl }
