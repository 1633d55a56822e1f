use Rattle.std.proofs.Common.{◌∙◌, sym}
use Rattle.cs_names.proofs.Tables.{drawn}
use Rattle.cs_names.proofs.Steps.{made-free, made-taken}
use Rattle.cs_names.proofs.names.Names.answer_made.Goals as goal

pub returns-then-contains_key : goal.returns-then-contains_key
returns-then-contains_key c =
    made-taken _ _ _ c.args.self.now c.self.view_is c.in_ok-key.key c.in_ok-key.ensures.dir c.in_ok-key.ensures.name
    (sym c.refusal.ensures ∙ c.in_default.is)
    (sym c.contains_key.ensures ∙ c.if-contains_key.true)

pub returns : goal.returns
returns c =
    made-free _ _ _ c.args.self.now c.self.view_is c.in_ok-key.key c.in_ok-key.ensures.dir c.in_ok-key.ensures.name c.in-Some-new.ino
    (sym c.refusal.ensures ∙ c.in_default.is)
    (sym c.contains_key.ensures ∙ c.if-contains_key.false) (drawn _ _ (sym c.new-2.ensures ∙ c.in-Some-new.is))
