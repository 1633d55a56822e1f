use Rattle.cs_capsnap.proofs.Alone.{last_alone}
use Rattle.cs_capsnap.proofs.laws.only_the_last_is_writing.Goals as goal

pub returns : goal.returns
returns c = last_alone
