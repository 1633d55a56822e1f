use Rattle.cs_codec.proofs.Names.{name_codec}
use Rattle.cs_codec.proofs.Numbers.{flag_codec, number_codec, optional_codec}
use Rattle.cs_codec.proofs.laws.fields_are_read_back.Goals as goal

pub returns : goal.returns
returns c = record { numbers = number_codec; flags = flag_codec; optional = optional_codec; names = name_codec }
