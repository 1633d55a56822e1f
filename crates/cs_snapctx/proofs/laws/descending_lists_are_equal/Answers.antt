use Rattle.cs_snapctx.proofs.Descending.{descending_equal}
use Rattle.cs_snapctx.proofs.laws.descending_lists_are_equal.Goals as goal

pub returns : goal.returns
returns c = descending_equal
