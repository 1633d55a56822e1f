use Rattle.cs_codec.proofs.Tagged.{kind_back, kind_owns, tagged_codec}
use Rattle.cs_codec.proofs.laws.kinds_are_told_apart.Goals as goal

pub returns : goal.returns
returns g c = record {
  read = λ b g s low high k choose make one small within is. kind_back one low high k choose make small within is;
  alone = λ b g s k a f make one text fits. kind_owns one k a f make text fits;
  all = λ a f low high choose small back owns. tagged_codec low high choose a f small back owns;
}
