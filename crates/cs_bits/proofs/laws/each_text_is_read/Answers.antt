use Rattle.cs_bits.proofs.Reading.{text_is_read}
use Rattle.cs_bits.proofs.laws.each_text_is_read.Goals as goal

pub returns : goal.returns
returns c = text_is_read
