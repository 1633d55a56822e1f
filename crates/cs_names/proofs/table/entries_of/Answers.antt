use Rattle.std.proofs.Common.{◌∙◌, ap}
use Rattle.cs_names.specs.Table.{entries_in}
use Rattle.cs_names.proofs.Entries.{entries_between-in}
use Rattle.cs_names.proofs.table.entries_of.Goals as goal

pub returns : goal.returns
returns c = c.range.ensures.between tt
    ∙ entries_between-in c.first_of-first.result c.first_of-end.result _ c.first_of-first.ensures.dir c.first_of-first.ensures.name
    c.first_of-end.ensures.dir c.first_of-end.ensures.name c.args.entries.now.entries
    ∙ ap (λ d. entries_in d c.args.entries.now.entries) c.get-number.ensures.value
