use Rattle.std.proofs.Common.{sym, ap, ◌∙◌, arith, if◌then◌else◌}
use Rattle.cs_gate.specs.declared.views.PassState.TheVariants.{Turning, Inside}
use Rattle.cs_gate.specs.Gate.{generation_of}
use Rattle.cs_gate.specs.declared.views.Role.TheVariants as roles
use Rattle.cs_gate.specs.Handles.{pass_state}
use Rattle.cs_gate.proofs.MovesKept.{enter_allowed, turn_back_allowed}
use Rattle.cs_gate.proofs.pass.Pass.enter.Goals as goal

pub fetch_add-word-requires : goal.fetch_add-word-requires
fetch_add-word-requires c =
    let i = c.self.invariant in
    let table = ap (λ g. g.word.shared.table_id) c.deref.ensures in (
      i.0 ∙ sym table,
      (let words = c.deref.result.now.one_word in omega arith),
      enter_allowed _ _ _ _ c.args.self.now.inside (ap (λ v. v.role) i.1 ∙ ap (λ h. roles.Pass (pass_state h.inside)) c.self.view_is) c.requires,
    )

pub fetch_sub-requires : goal.fetch_sub-requires
fetch_sub-requires c =
    let i = c.self.invariant in
    let table = ap (λ g. g.word.shared.table_id) c.deref.ensures in
    let entered = c.fetch_add-word.ensures in
    let word = c.fetch_add-word.result in (
      entered.0 ∙ i.0 ∙ sym table,
      (let words = c.deref.result.now.one_word in omega arith),
      turn_back_allowed _ _ _ _ (ap (λ v. v.role) entered.2 ∙ ap (λ b. roles.Pass (if b then Turning else Inside (generation_of word))) (sym c.is_closed.ensures ∙ c.if-is_closed.true)),
    )
