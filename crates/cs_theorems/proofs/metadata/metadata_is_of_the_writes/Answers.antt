use Rattle.cs_theorems.proofs.Sizes.{meta_is}
use Rattle.cs_theorems.proofs.metadata.metadata_is_of_the_writes.Goals as goal

pub returns : goal.returns
returns c = meta_is
