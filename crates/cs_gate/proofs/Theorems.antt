-- What a keeper and a pass can tell of each other.
use Rattle.std.proofs.Common.{◌≡◌, ◌⊎◌, ℕ, true, List, Option, Some, None, IsNone, IsTrue, refl, sym, ap, ◌∙◌, inl, inr}
use Rattle.cs_gate.specs.declared.views.PassState.TheVariants.{Inside}
use Rattle.cs_gate.specs.declared.views.KeeperState.{KeeperState}
use Rattle.cs_gate.specs.declared.views.KeeperState.TheVariants.{Open, Shut, Drained}
use Rattle.cs_gate.specs.declared.views.Role.TheVariants as roles
use Rattle.cs_gate.specs.declared.views.View.{View}
use Rattle.cs_gate.specs.declared.views.Plan.{Plan}
use Rattle.cs_gate.specs.Gate.{is_drained, keeper_generation, HasRole, NobodyIsInside, HoldsGeneration, Reaches}
use Rattle.cs_gate.specs.Handles.{KeeperHandle, PassHandle, keeper_view, pass_state, pass_view, KeeperFinds, PassFinds}
use Rattle.cs_gate.proofs.RuleKept.{rule_of}

-- nobody is inside while a keeper is drained
pub drained_apart : (plan : Plan) (word : ℕ) (views : List View) (seat : ℕ) (k : KeeperState) → Reaches plan word views → HasRole views seat (roles.Keeper k) → is_drained k ≡ true → NobodyIsInside views
drained_apart plan word views seat k reached here drained =
    let r = rule_of plan word views reached in
    r.drained (ap is_drained (sym (r.one seat k here).1) ∙ drained)

open_or_shut : (k : KeeperState) (g : ℕ) → (is_drained k ≡ true → ⊥) → g ≡ keeper_generation k → (k ≡ Open g) ⊎ (k ≡ Shut g)
open_or_shut (Open n) g undrained is = inl (ap Open (sym is))
open_or_shut (Shut n) g undrained is = inr (ap Shut (sym is))
open_or_shut (Drained n) g undrained is = absurd (undrained refl)

-- while a pass is inside, the keeper is open or shut in that generation
pub inside_held : (plan : Plan) (word : ℕ) (views : List View) (seat g : ℕ) → Reaches plan word views → HasRole views seat (roles.Pass (Inside g)) → HoldsGeneration views g
inside_held plan word views seat g reached here =
    let r = rule_of plan word views reached in
    (r.seat, r.keeper, r.kept, open_or_shut r.keeper g (λ d. r.drained d seat g here) (r.inside seat g here ∙ r.generation_is))

-- the same of a keeper and a pass of one gate
pub drained_out : (k : KeeperHandle) (p : PassHandle) (word : ℕ) (views : List View) → KeeperFinds k word views → PassFinds p word views → IsTrue (is_drained k.state) → IsNone p.inside
drained_out k p word views mine theirs drained = out p.inside refl
  where
    out : (inside : Option ℕ) → inside ≡ p.inside → IsNone inside
    out None is = refl
    out (Some g) is = absurd (drained_apart k.gate.plan word views k.seat k.state mine.0 (keeper_view k.state k.reads, mine.1, refl) drained p.seat g (pass_view p.inside p.reads, theirs.1, ap (λ o. roles.Pass (pass_state o)) (sym is)))

pub keeper_holds : (k : KeeperHandle) (p : PassHandle) (word : ℕ) (views : List View) (g : ℕ) → KeeperFinds k word views → PassFinds p word views → p.inside ≡ Some g
    → (k.state ≡ Open g) ⊎ (k.state ≡ Shut g)
keeper_holds k p word views g mine theirs inside =
    let r = rule_of k.gate.plan word views mine.0 in
    let mine_is = r.one k.seat k.state (keeper_view k.state k.reads, mine.1, refl) in
    let here : HasRole views p.seat (roles.Pass (Inside g)) = (pass_view p.inside p.reads, theirs.1, ap (λ o. roles.Pass (pass_state o)) inside) in
    open_or_shut k.state g (λ d. r.drained (ap is_drained (sym mine_is.1) ∙ d) p.seat g here) (r.inside p.seat g here ∙ r.generation_is ∙ ap keeper_generation (sym mine_is.1))
