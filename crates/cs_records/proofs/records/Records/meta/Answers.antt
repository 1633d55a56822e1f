use Rattle.std.proofs.Common.{◌≡◌, ◌∙◌, sym, ap}
use Rattle.std.proofs.lemmas.List.{take-append-drop}
use Rattle.cs_laws.specs.Metadata.{meta_at}
use Rattle.cs_records.specs.Flushed.{Flushed}
use Rattle.cs_records.specs.Recorded.{last_recorded}
use Rattle.cs_records.specs.Records.{all}
use Rattle.cs_records.proofs.RecordedSteps.{last_recorded_is}
use Rattle.cs_records.proofs.records.Records.meta.Goals as goal

pub returns : goal.returns
returns c =
    let rs = c.self.inside.records.items in
    let whole : all c.args.self.now ≡ rs = ap all (sym c.self.view_is) ∙ take-append-drop c.self.inside.durable rs in
    c.meta.ensures
    ∙ (ap (λ (w : Flushed). last_recorded c.args.at w.metas) (c.self.invariant.index.flushes c.args.file)
    ∙ (last_recorded_is c.args.file rs c.self.invariant.index.log c.args.at ∙ ap (λ xs. meta_at c.args.file c.args.at xs) (sym whole)))
