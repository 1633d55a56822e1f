-- A gate as the table that holds its word: what the table keeps between any two steps, and what each step tells who takes it.
use Rattle.std.specs.Prelude.{◌≡◌, ℕ, ◌+◌, ◌/◌, ◌%◌, ◌^◌, true, [], ◌∷◌}
use Rattle.atomic_table.specs.Table.{State, Me, Step}
use Rattle.cs_gate.specs.declared.views.View.{View}
use Rattle.cs_gate.specs.declared.views.Plan.{Plan}
use Rattle.cs_gate.specs.Gate.{StepKind, probe, reopen, Reaches, MeetsRule, view_after, is_closed, generation_of, role_generation}

-- the word and the views are some that the steps of a gate come to, and meet its rule
pub record IsGate (plan : Plan) (s : State (Unit {0}) View) : Type 0 where
  pub word : ℕ
  pub words : s.words ≡ word ∷ []
  pub reached : Reaches plan word s.views
  pub rule : MeetsRule plan word s.views

abbrev Seated : Type 0
Seated = Me (Unit {0}) View

-- the view is what a step of this kind makes of it
abbrev pub Tells : StepKind → Step (Unit {0}) → Seated → ℕ → Seated → Type 0
Tells kind st me found after = after.0 ≡ view_after kind found me.0

-- a probe finds a closed word of the keeper's generation
abbrev pub ProbeTells : Step (Unit {0}) → Seated → ℕ → Seated → Type 0
ProbeTells st me found after = Tells probe st me found after × (is_closed found ≡ true) × (generation_of found ≡ role_generation me.0.role)

-- a reopening goes on by as many generations as it added to the word
abbrev pub ReopenTells : Step (Unit {0}) → Seated → ℕ → Seated → Type 0
ReopenTells st me found after = Tells (reopen (role_generation me.0.role + st.first / 2 ^ 32 % 2 ^ 31)) st me found after
