use Rattle.std.proofs.Common.{[], ◌++◌, ap}
use Rattle.cs_codec.proofs.Codecs.{one_spelling}
use Rattle.cs_mdslog.proofs.Records.{record_codec}
use Rattle.cs_mdslog.proofs.laws.one_spelling.Goals as goal

pub returns : goal.returns
returns c = λ r s fits too is. one_spelling record_codec r s [] [] fits too (ap (λ xs. xs ++ []) is)
