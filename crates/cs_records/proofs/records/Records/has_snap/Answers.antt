use Rattle.std.proofs.Common.{◌≡◌, ◌∙◌, is_some, sym, ap}
use Rattle.std.proofs.lemmas.List.{take-append-drop}
use Rattle.cs_laws.specs.Standing.{has_snap}
use Rattle.cs_records.specs.Records.{all}
use Rattle.cs_records.proofs.Logs.{snap_dir}
use Rattle.cs_records.proofs.records.Records.has_snap.Goals as goal

pub returns : goal.returns
returns c =
    let rs = c.self.inside.records.items in
    let whole : all c.args.self.now ≡ rs = ap all (sym c.self.view_is) ∙ take-append-drop c.self.inside.durable rs in
    c.contains_key.ensures
    ∙ (ap is_some (c.self.invariant.index.dirs c.args.snap) ∙ (sym (snap_dir c.args.snap rs) ∙ ap (λ xs. has_snap c.args.snap xs) (sym whole)))
