use Rattle.cs_files.proofs.Owes.{owed_is}
use Rattle.cs_files.proofs.laws.files_owe.Goals as goal

pub returns : goal.returns
returns c p h run = owed_is p h run
