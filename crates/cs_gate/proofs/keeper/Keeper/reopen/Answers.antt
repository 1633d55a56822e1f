use Rattle.std.proofs.Common.{sym, ap, ◌∙◌, ◌<◌, arith, subst, ℕ}
use Rattle.cs_gate.specs.Gate.{is_drained, keeper_generation, reopening}
use Rattle.cs_gate.proofs.MovesKept.{reopen_allowed}
use Rattle.cs_gate.proofs.keeper.Keeper.reopen.Goals as goal

pub fetch_add-requires : goal.fetch_add-requires
fetch_add-requires c =
    let i = c.self.invariant in
    let table = ap (λ g. g.word.shared.table_id) c.deref.ensures in
    let state = ap (λ h. h.state) c.self.view_is in (
      i.0 ∙ sym table,
      (let words = c.deref.result.now.one_word in omega arith),
      reopen_allowed _ _ _ _ c.self.inside.state c.args.generation _ (ap (λ v. v.role) i.1) (ap is_drained state ∙ c.requires.drained)
          (subst (λ (g : ℕ). g < c.args.generation) (sym (ap keeper_generation state)) c.requires.later) c.requires.range (c.reopening-added.ensures ∙ ap (λ g. reopening g c.args.generation) c.generation.ensures),
    )
