use Rattle.std.proofs.Common.{◌∙◌, sym, ap}
use Rattle.cs_laws.specs.Namespace.{has_dir}
use Rattle.cs_names.proofs.Tables.{has_dir-table}
use Rattle.cs_names.proofs.names.Names.has_dir.Goals as goal

pub returns : goal.returns
returns c = c.contains.ensures ∙ sym (has_dir-table c.self.invariant c.args.dir) ∙ ap (λ ns. has_dir ns c.args.dir) c.self.view_is
