use Rattle.cs_pages.proofs.Bytes.{last_bytes}
use Rattle.cs_pages.proofs.laws.reads_give_the_last_bytes_put.Goals as goal

pub returns : goal.returns
returns c = last_bytes
