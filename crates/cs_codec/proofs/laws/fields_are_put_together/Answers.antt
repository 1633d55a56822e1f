use Rattle.cs_codec.proofs.Codecs.{both_codec, mapped_codec, tested_codec}
use Rattle.cs_codec.proofs.Lists.{list_codec}
use Rattle.cs_codec.proofs.laws.fields_are_put_together.Goals as goal

pub returns : goal.returns
returns g c = record {
  pairs = λ a f r b g s one two. both_codec one two;
  made = λ a f r b g make one from to. mapped_codec one b g make from to;
  tested = λ a f r test one. tested_codec one test;
  lists = λ a f r one. list_codec one;
}
