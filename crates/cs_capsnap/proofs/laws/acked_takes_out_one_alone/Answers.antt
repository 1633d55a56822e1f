use Rattle.cs_capsnap.proofs.Alone.{acked_alone}
use Rattle.cs_capsnap.proofs.laws.acked_takes_out_one_alone.Goals as goal

pub returns : goal.returns
returns c = acked_alone
