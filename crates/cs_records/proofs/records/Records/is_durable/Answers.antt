use Rattle.std.proofs.Common.{◌∙◌, sym, ap}
use Rattle.cs_laws.specs.Standing.{has_flush}
use Rattle.cs_records.specs.Flushed.{Flushed}
use Rattle.cs_records.specs.Places.{place_in}
use Rattle.cs_records.specs.Records.{RecordLog}
use Rattle.cs_records.proofs.FlushPlaces.{is_in, stands_durable}
use Rattle.cs_records.proofs.records.Records.is_durable.Goals as goal

pub returns-in-Some : goal.returns-in-Some
returns-in-Some c =
    let s = c.self.inside in
    let f = c.args.file in
    let tid = c.args.tid in
    let found = sym c.in-Some.is ∙ (c.place.ensures ∙ ap (λ (w : Flushed). place_in tid w.places) (c.self.invariant.index.flushes f)) in
    ap (λ o. is_in s.durable o) found
    ∙ (stands_durable f tid s.durable s.records.items ∙ ap (λ (v : RecordLog). has_flush f tid v.durable) c.self.view_is)

pub returns-in-None : goal.returns-in-None
returns-in-None c =
    let s = c.self.inside in
    let f = c.args.file in
    let tid = c.args.tid in
    let found = sym c.in-None.is ∙ (c.place.ensures ∙ ap (λ (w : Flushed). place_in tid w.places) (c.self.invariant.index.flushes f)) in
    ap (λ o. is_in s.durable o) found
    ∙ (stands_durable f tid s.durable s.records.items ∙ ap (λ (v : RecordLog). has_flush f tid v.durable) c.self.view_is)
