use Rattle.cs_snapctx.proofs.Contexts.{contexts_equal}
use Rattle.cs_snapctx.proofs.laws.realm_contexts_are_equal.Goals as goal

pub returns : goal.returns
returns c = contexts_equal
