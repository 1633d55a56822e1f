use Rattle.std.proofs.Common.{◌∙◌}
use Rattle.std.specs.Map.Iter.{deref_pair}
use Rattle.cs_names.proofs.Entries.{next-in}
use Rattle.cs_names.proofs.table.has_entries.Goals as goal

pub returns : goal.returns
returns c = c.is_some.ensures ∙ next-in deref_pair _ _ _ c.args.dir c.args.entries.now.entries c.next.ensures.steps c.entries_of.ensures
