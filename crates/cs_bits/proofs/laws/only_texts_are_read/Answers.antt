use Rattle.cs_bits.proofs.Reading.{read_is_text}
use Rattle.cs_bits.proofs.laws.only_texts_are_read.Goals as goal

pub returns : goal.returns
returns c = read_is_text
