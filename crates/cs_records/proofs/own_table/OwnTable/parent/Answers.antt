use Rattle.std.proofs.Common.{◌∙◌, drop, rules, tests}
use Rattle.std.proofs.lemmas.Iterator.{YieldsList-from_slice}
use Rattle.std.proofs.lemmas.Iterator.Search.{find_from_yields_List}
use Rattle.cs_records.specs.OwnTable.{is_realm_by, own_in}
use Rattle.cs_records.proofs.Lists.{behind_first}
use Rattle.cs_records.proofs.own_table.OwnTable.parent.Goals as goal

pub returns-in-len1-up : goal.returns-in-len1-up
returns-in-len1-up c =
    let path = c.args.path.now in
    c.copied.ensures
    ∙ find_from_yields_List (is_realm_by (own_in c.args.self.now)) _ _ _ c.find.ensures.ran
    (YieldsList-from_slice (drop 1 path) (c.iter.ensures.rest ∙ behind_first path)) (λ x b q k. search (rules, tests))
