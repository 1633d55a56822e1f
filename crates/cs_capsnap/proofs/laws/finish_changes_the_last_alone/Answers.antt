use Rattle.cs_capsnap.proofs.Alone.{finish_alone}
use Rattle.cs_capsnap.proofs.laws.finish_changes_the_last_alone.Goals as goal

pub returns : goal.returns
returns c = finish_alone
