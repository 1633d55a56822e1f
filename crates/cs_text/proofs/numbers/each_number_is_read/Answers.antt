use Rattle.cs_text.proofs.Decimals.{dec_of-decimal, decimal-read}
use Rattle.cs_text.proofs.numbers.each_number_is_read.Goals as goal

pub returns-clause-read : goal.returns-clause-read
returns-clause-read c = dec_of-decimal

pub returns-clause-alone : goal.returns-clause-alone
returns-clause-alone c = decimal-read
