use Rattle.cs_files.proofs.FileReads.{read_is}
use Rattle.cs_files.proofs.laws.files_read.Goals as goal

pub returns : goal.returns
returns c p h run = read_is p h run
