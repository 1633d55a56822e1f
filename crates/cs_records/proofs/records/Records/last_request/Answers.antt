use Rattle.std.proofs.Common.{◌≡◌, ◌∙◌, sym, ap}
use Rattle.std.proofs.lemmas.List.{take-append-drop}
use Rattle.cs_laws.specs.Standing.{greatest_request}
use Rattle.cs_records.specs.Records.{all}
use Rattle.cs_records.proofs.records.Records.last_request.Goals as goal

pub returns : goal.returns
returns c =
    let rs = c.self.inside.records.items in
    let whole : all c.args.self.now ≡ rs = ap all (sym c.self.view_is) ∙ take-append-drop c.self.inside.durable rs in
    c.self.invariant.index.last ∙ ap greatest_request (sym whole)
