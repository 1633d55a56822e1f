use Rattle.std.proofs.Common.{◌≡◌, ◌∙◌, sym, ap}
use Rattle.std.proofs.lemmas.List.{take-append-drop}
use Rattle.cs_laws.specs.Standing.{greatest_tid}
use Rattle.cs_records.specs.Flushed.{Flushed}
use Rattle.cs_records.specs.Places.{greatest_in}
use Rattle.cs_records.specs.Records.{all}
use Rattle.cs_records.proofs.FlushPlaces.{greatest_places}
use Rattle.cs_records.proofs.records.Records.last_tid.Goals as goal

pub returns : goal.returns
returns c =
    let rs = c.self.inside.records.items in
    let whole : all c.args.self.now ≡ rs = ap all (sym c.self.view_is) ∙ take-append-drop c.self.inside.durable rs in
    c.last_tid.ensures
    ∙ (ap (λ (w : Flushed). greatest_in w.places) (c.self.invariant.index.flushes c.args.file)
    ∙ (greatest_places c.args.file 0 rs ∙ ap (λ xs. greatest_tid c.args.file xs) (sym whole)))
