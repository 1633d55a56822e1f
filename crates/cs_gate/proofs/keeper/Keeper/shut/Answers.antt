use Rattle.std.proofs.Common.{sym, ap, ◌∙◌, arith}
use Rattle.cs_gate.specs.Gate.{is_open}
use Rattle.cs_gate.proofs.MovesKept.{shut_allowed}
use Rattle.cs_gate.proofs.keeper.Keeper.shut.Goals as goal

pub fetch_or-requires : goal.fetch_or-requires
fetch_or-requires c =
    let i = c.self.invariant in
    let table = ap (λ g. g.word.shared.table_id) c.deref.ensures in (
      i.0 ∙ sym table,
      (let words = c.deref.result.now.one_word in omega arith),
      shut_allowed _ _ _ _ c.self.inside.state (ap (λ v. v.role) i.1) (ap (λ h. is_open h.state) c.self.view_is ∙ c.requires),
    )
