use Rattle.std.proofs.Common.{refl}
use Rattle.cs_codec.specs.Fields.{whole}
use Rattle.cs_codec.proofs.Wholes.{spelled, unspelled}
use Rattle.cs_codec.proofs.laws.whole_bytes_are_read.Goals as goal

pub returns : goal.returns
returns g c = record {
  some = λ a f r one b all. spelled one b all (whole (r b)) refl;
  none = λ a f r one b. unspelled one b (whole (r b)) refl;
}
