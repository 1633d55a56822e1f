use Rattle.cs_snapctx.proofs.Contexts.{merged_is}
use Rattle.cs_snapctx.proofs.laws.merged_is_a_realm_context.Goals as goal

pub returns : goal.returns
returns c = merged_is
