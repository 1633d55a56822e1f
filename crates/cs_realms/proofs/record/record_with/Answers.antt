use Rattle.std.proofs.Common.{cond, Some, ◌∙◌, ap, sym}
use Rattle.cs_snapctx.specs.Records.{record_of}
use Rattle.cs_realms.proofs.Stays.{record_of-with}
use Rattle.cs_realms.proofs.record.record_with.Goals as goal

pub returns-then-eq : goal.returns-then-eq
returns-then-eq c =
    let here = sym c.eq.ensures ∙ c.if-eq.true in
    sym (record_of-with c.args.realm c.args.latest.now c.args.records.now ∙ ap (λ b. cond b (Some c.args.latest.now) (record_of c.args.realm c.args.records.now)) here)

pub returns : goal.returns
returns c =
    let other = sym c.eq.ensures ∙ c.if-eq.false in
    c.record_of.ensures
    ∙ sym (record_of-with c.args.realm c.args.latest.now c.args.records.now ∙ ap (λ b. cond b (Some c.args.latest.now) (record_of c.args.realm c.args.records.now)) other)
