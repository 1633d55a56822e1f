use Rattle.cs_files.proofs.Created.{context_created}
use Rattle.cs_files.proofs.Made.{context_made, named_known, new_is}
use Rattle.cs_files.proofs.laws.files_are_new.Goals as goal

pub returns : goal.returns
returns c p h run = record { new = new_is p h run; at_home = context_made h; created = context_created p h run; known = named_known p h run }
