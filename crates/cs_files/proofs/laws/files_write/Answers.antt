use Rattle.cs_files.proofs.Writes.{brought_is, size_within}
use Rattle.cs_files.proofs.laws.files_write.Goals as goal

pub returns : goal.returns
returns c p h run = record { operations = brought_is p h run; ends = size_within p h run }
