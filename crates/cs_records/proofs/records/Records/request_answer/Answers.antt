use Rattle.std.proofs.Common.{◌≡◌, ◌∙◌, sym, ap}
use Rattle.std.specs.Option.{option_map}
use Rattle.std.proofs.lemmas.List.{take-append-drop}
use Rattle.cs_laws.specs.Standing.{answer_kept}
use Rattle.cs_records.specs.declared.requests.Answered.{Answered}
use Rattle.cs_records.specs.Records.{all}
use Rattle.cs_records.proofs.RequestPlaces.{answer_from}
use Rattle.cs_records.proofs.records.Records.request_answer.Goals as goal

pub returns : goal.returns
returns c =
    let rs = c.self.inside.records.items in
    let whole : all c.args.self.now ≡ rs = ap all (sym c.self.view_is) ∙ take-append-drop c.self.inside.durable rs in
    c.answer.ensures
    ∙ (ap (λ o. option_map (λ (a : Answered). a.answer) o) (c.self.invariant.index.requests c.args.tid)
    ∙ (answer_from c.args.tid 0 rs ∙ ap (λ xs. answer_kept c.args.tid xs) (sym whole)))
