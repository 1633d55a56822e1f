use Rattle.std.proofs.Common.{◌∙◌, sym, ap}
use Rattle.std.specs.Option.{option_map}
use Rattle.cs_laws.specs.Standing.{has_request}
use Rattle.cs_records.specs.declared.requests.Answered.{Answered}
use Rattle.cs_records.specs.Records.{RecordLog}
use Rattle.cs_records.proofs.FlushPlaces.{is_in}
use Rattle.cs_records.proofs.RequestPlaces.{request_durable}
use Rattle.cs_records.proofs.records.Records.is_request_durable.Goals as goal

pub returns-in-Some : goal.returns-in-Some
returns-in-Some c =
    let s = c.self.inside in
    let t = c.args.tid in
    let found = sym c.in-Some.is ∙ (c.place.ensures ∙ ap (λ o. option_map (λ (a : Answered). a.place) o) (c.self.invariant.index.requests t)) in
    ap (λ o. is_in s.durable o) found
    ∙ (request_durable t s.durable s.records.items ∙ ap (λ (v : RecordLog). has_request t v.durable) c.self.view_is)

pub returns-in-None : goal.returns-in-None
returns-in-None c =
    let s = c.self.inside in
    let t = c.args.tid in
    let found = sym c.in-None.is ∙ (c.place.ensures ∙ ap (λ o. option_map (λ (a : Answered). a.place) o) (c.self.invariant.index.requests t)) in
    ap (λ o. is_in s.durable o) found
    ∙ (request_durable t s.durable s.records.items ∙ ap (λ (v : RecordLog). has_request t v.durable) c.self.view_is)
