use Rattle.std.proofs.Common.{[], ◌++◌, ap}
use Rattle.cs_codec.proofs.Codecs.{one_spelling}
use Rattle.cs_codec.proofs.laws.each_has_one_spelling.Goals as goal

pub returns : goal.returns
returns g c = λ a f r one x y fits too is. one_spelling one x y [] [] fits too (ap (λ bs. bs ++ []) is)
