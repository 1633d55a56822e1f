use Rattle.std.proofs.Common.{sym, ap, ◌∙◌, arith}
use Rattle.cs_gate.specs.declared.views.Role.TheVariants as roles
use Rattle.cs_gate.specs.Handles.{pass_state}
use Rattle.cs_gate.proofs.MovesKept.{leave_allowed}
use Rattle.cs_gate.proofs.pass.Pass.leave.Goals as goal

pub fetch_sub-requires : goal.fetch_sub-requires
fetch_sub-requires c =
    let i = c.self.invariant in
    let table = ap (λ g. g.word.shared.table_id) c.deref.ensures in (
      i.0 ∙ sym table,
      (let words = c.deref.result.now.one_word in omega arith),
      leave_allowed _ _ _ _ c.args.self.now.inside (ap (λ v. v.role) i.1 ∙ ap (λ h. roles.Pass (pass_state h.inside)) c.self.view_is) c.requires,
    )
