use Rattle.std.proofs.Common.{sym, ◌∙◌, ap}
use Rattle.std.specs.Option.{option_copied}
use Rattle.cs_snapctx.specs.Records.{is_of}
use Rattle.cs_realms.proofs.Places.{found, looked_up, not_found}
use Rattle.cs_realms.proofs.record.record_of.Goals as goal

pub returns-in_err-place : goal.returns-in_err-place
returns-in_err-place c =
    ap option_copied c.from_residual.ensures ∙ sym (not_found (is_of c.args.realm) c.args.records.now (sym c.place_of.ensures ∙ c.in_err-place.was))

pub returns : goal.returns
returns c =
    looked_up c.args.records.now c.in_ok-place.place c.get.result c.get.ensures.lookup
    ∙ sym (found (is_of c.args.realm) c.args.records.now c.in_ok-place.place (sym c.place_of.ensures ∙ c.in_ok-place.was))
