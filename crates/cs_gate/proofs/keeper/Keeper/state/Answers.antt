use Rattle.std.proofs.Common.{refl, sym, ap, ◌∙◌}
use Rattle.cs_gate.specs.Gate.{is_drained}
use Rattle.cs_gate.specs.Handles.{keeper_view}
use Rattle.cs_gate.proofs.Theorems.{drained_apart}
use Rattle.cs_gate.proofs.keeper.Keeper.state.Goals as goal

pub returns-clause-nobody_inside : goal.returns-clause-nobody_inside
returns-clause-nobody_inside c = λ drained word views finds.
    let k = c.args.self.now in
    drained_apart k.gate.plan word views k.seat k.state finds.0 (keeper_view k.state k.reads, finds.1, refl) (ap (λ h. is_drained h.state) (sym c.self.view_is) ∙ drained)
