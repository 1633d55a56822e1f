use Rattle.std.proofs.Common.{◌∙◌, false, sym, true}
use Rattle.cs_names.proofs.Steps.{has_entry-lookup, renamed-none, renamed-some}
use Rattle.cs_names.proofs.names.Names.answer_renamed.Goals as goal

pub returns-in_default-copied : goal.returns-in_default-copied
returns-in_default-copied c =
    renamed-none _ _ _ c.args.self.now c.self.view_is c.in_ok-key.key c.in_ok-key.ensures.dir c.in_ok-key.ensures.name
    c.args.new_name.now (sym c.refusal.ensures ∙ c.in_default.is)
    (sym c.get.ensures.value ∙ (sym c.copied.ensures ∙ c.in_default-copied.is))

pub returns-then-contains_key : goal.returns-then-contains_key
returns-then-contains_key c =
    renamed-some _ _ _ c.args.self.now c.self.view_is c.in_ok-key.key c.in_ok-key.ensures.dir c.in_ok-key.ensures.name
    c.args.new_name.now c.in-Some-copied.entry true
    (sym c.refusal.ensures ∙ c.in_default.is) (sym c.get.ensures.value ∙ (sym c.copied.ensures ∙ c.in-Some-copied.is))
    (has_entry-lookup _ _ _ c.args.self.now c.self.view_is c.in_ok-new_key.new_key c.in_ok-new_key.ensures.dir
    c.in_ok-new_key.ensures.name
    ∙ (sym c.contains_key.ensures ∙ c.if-contains_key.true))

pub returns : goal.returns
returns c =
    renamed-some _ _ _ c.args.self.now c.self.view_is c.in_ok-key.key c.in_ok-key.ensures.dir c.in_ok-key.ensures.name
    c.args.new_name.now c.in-Some-copied.entry false
    (sym c.refusal.ensures ∙ c.in_default.is) (sym c.get.ensures.value ∙ (sym c.copied.ensures ∙ c.in-Some-copied.is))
    (has_entry-lookup _ _ _ c.args.self.now c.self.view_is c.in_ok-new_key.new_key c.in_ok-new_key.ensures.dir
    c.in_ok-new_key.ensures.name
    ∙ (sym c.contains_key.ensures ∙ c.if-contains_key.false))
