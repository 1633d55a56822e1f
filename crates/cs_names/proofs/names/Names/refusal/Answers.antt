use Rattle.std.proofs.Common.{◌∙◌, true, false, refl, sym}
use Rattle.cs_names.proofs.Steps.{refusal-table}
use Rattle.cs_names.proofs.names.Names.refusal.Goals as goal

pub returns-then-contains : goal.returns-then-contains
returns-then-contains c =
    sym (refusal-table c.self.invariant c.args.self.now c.self.view_is c.args.dir true _ (sym c.contains.ensures
    ∙ c.if-contains.true) refl)

pub returns-then-contains-2 : goal.returns-then-contains-2
returns-then-contains-2 c =
    sym (refusal-table c.self.invariant c.args.self.now c.self.view_is c.args.dir false true (sym c.contains.ensures
    ∙ c.if-contains.false)
    (sym c.contains-else-contains.ensures ∙ c.if-contains-2.true))

pub returns-else-contains-2 : goal.returns-else-contains-2
returns-else-contains-2 c =
    sym (refusal-table c.self.invariant c.args.self.now c.self.view_is c.args.dir false false (sym c.contains.ensures
    ∙ c.if-contains.false)
    (sym c.contains-else-contains.ensures ∙ c.if-contains-2.false))
