use Rattle.std.proofs.Common.{refl, sym, ap, ◌∙◌, arith}
use Rattle.cs_gate.specs.Gate.{is_open}
use Rattle.cs_gate.specs.Handles.{keeper_view}
use Rattle.cs_gate.proofs.MovesKept.{probe_allowed}
use Rattle.cs_gate.proofs.Theorems.{drained_apart}
use Rattle.cs_gate.proofs.keeper.Keeper.probe.Goals as goal

pub load-word-requires : goal.load-word-requires
load-word-requires c =
    let i = c.self.invariant in
    let table = ap (λ g. g.word.shared.table_id) c.deref.ensures in (
      i.0 ∙ sym table,
      (let words = c.deref.result.now.one_word in omega arith),
      probe_allowed _ _ _ _ c.self.inside.state (ap (λ v. v.role) i.1) (ap (λ h. is_open h.state) c.self.view_is ∙ c.requires),
    )

pub returns-clause-nobody_inside : goal.returns-clause-nobody_inside
returns-clause-nobody_inside c = λ _ word views finds. drained_apart _ word views _ _ finds.0 (keeper_view _ _, finds.1, refl) refl
