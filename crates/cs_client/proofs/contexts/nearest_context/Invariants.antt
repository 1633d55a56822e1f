use Rattle.std.proofs.Common.{◌≡◌, drop}
use Rattle.cs_client.specs.Contexts.{nearest_context}
use Rattle.cs_client.proofs.contexts.nearest_context.Given as goal

abbrev pub invariant-loop-directory : goal.invariant-loop-directory
invariant-loop-directory l = nearest_context (drop l.directory-index l.path) l.realms ≡ nearest_context l.path l.realms
