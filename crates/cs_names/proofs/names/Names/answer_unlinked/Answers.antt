use Rattle.std.proofs.Common.{◌∙◌, false, sym, true}
use Rattle.cs_names.proofs.Steps.{unlinked-none, unlinked-some}
use Rattle.cs_names.proofs.names.Names.answer_unlinked.Goals as goal

pub returns-in_default-copied : goal.returns-in_default-copied
returns-in_default-copied c =
    unlinked-none _ _ _ c.args.self.now c.self.view_is c.in_ok-key.key c.in_ok-key.ensures.dir c.in_ok-key.ensures.name
    (sym c.refusal.ensures ∙ c.in_default.is)
    (sym c.get.ensures.value ∙ (sym c.copied.ensures ∙ c.in_default-copied.is))

pub returns-then-is_filled : goal.returns-then-is_filled
returns-then-is_filled c =
    unlinked-some _ _ _ c.args.self.now c.self.view_is c.in_ok-key.key c.in_ok-key.ensures.dir c.in_ok-key.ensures.name
    c.in-Some-copied.entry true (sym c.refusal.ensures ∙ c.in_default.is)
    (sym c.get.ensures.value ∙ (sym c.copied.ensures ∙ c.in-Some-copied.is)) (sym c.is_filled.ensures ∙ c.if-is_filled.true)

pub returns : goal.returns
returns c =
    unlinked-some _ _ _ c.args.self.now c.self.view_is c.in_ok-key.key c.in_ok-key.ensures.dir c.in_ok-key.ensures.name
    c.in-Some-copied.entry false (sym c.refusal.ensures ∙ c.in_default.is)
    (sym c.get.ensures.value ∙ (sym c.copied.ensures ∙ c.in-Some-copied.is)) (sym c.is_filled.ensures ∙ c.if-is_filled.false)
