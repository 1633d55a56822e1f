use Rattle.std.proofs.Common.{◌≡◌, ℕ, List, Option, Some, None, IfSome, sym, ap}
use Rattle.cs_gate.specs.declared.views.View.{View}
use Rattle.cs_gate.specs.Gate.{HoldsGeneration}
use Rattle.cs_gate.specs.Handles.{PassHandle, pass_state, pass_view, PassFinds}
use Rattle.cs_gate.specs.declared.views.Role.TheVariants as roles
use Rattle.cs_gate.proofs.Theorems.{inside_held}
use Rattle.cs_gate.proofs.pass.Pass.inside.Goals as goal

held : (p : PassHandle) (inside : Option ℕ) → inside ≡ p.inside → IfSome inside (λ g. (word : ℕ) (views : List View) → PassFinds p word views → HoldsGeneration views g)
held p (Some g) is = λ word views finds. inside_held p.gate.plan word views p.seat g finds.0 (pass_view p.inside p.reads, finds.1, ap (λ o. roles.Pass (pass_state o)) (sym is))
held p None is = tt

pub returns-clause-held : goal.returns-clause-held
returns-clause-held c = held c.args.self.now c.self.inside.inside (ap (λ h. h.inside) c.self.view_is)
