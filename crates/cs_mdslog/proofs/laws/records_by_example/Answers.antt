use Rattle.std.proofs.Common.{refl}
use Rattle.cs_codec.specs.Fields.{number_bytes}
use Rattle.cs_mdslog.proofs.laws.records_by_example.Goals as goal

pub returns : goal.returns
unfolding number_bytes
returns c = record { request = refl; flush = refl; snap = refl; removal = refl }
