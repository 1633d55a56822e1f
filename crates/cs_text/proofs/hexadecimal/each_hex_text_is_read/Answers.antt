use Rattle.cs_text.proofs.HexPairs.{bytes_of_hex-text, hex_text-bytes}
use Rattle.cs_text.proofs.hexadecimal.each_hex_text_is_read.Goals as goal

pub returns-clause-read : goal.returns-clause-read
returns-clause-read c = bytes_of_hex-text

pub returns-clause-alone : goal.returns-clause-alone
returns-clause-alone c = hex_text-bytes
