-- Each step of a gate is one that its table allows.
use Rattle.std.proofs.Common.{◌≡◌, ℕ, ◌+◌, ◌-◌, ◌/◌, ◌%◌, ◌^◌, ◌<◌, true, List, [], ◌∷◌, ◌++◌, get_or, set, refl, sym, ap, ◌∙◌, subst, arith, bit_or, false, not, ap₂, Option, Some, None, IsSome, IsNone}
use mathlib.Core.Option.{none, some}
use lib.ListN.{get_elem?}
use Rattle.atomic_table.specs.Table.{Me, step, keeps, opening, Allows, Splits}
use Rattle.cs_gate.specs.declared.views.PassState.TheVariants.{Turning}
use Rattle.cs_gate.specs.declared.views.KeeperState.{KeeperState}
use Rattle.cs_gate.specs.declared.views.KeeperState.TheVariants.{Open, Shut, Drained}
use Rattle.cs_gate.specs.declared.views.Role.TheVariants as roles
use Rattle.cs_gate.specs.declared.views.View.{View}
use Rattle.cs_gate.specs.declared.views.Plan.{Plan}
use Rattle.cs_gate.specs.Gate.{keeper_generation, is_open, is_drained, Reaches, begins, steps, splits, MeetsRule, StepKind, enter, turn_back, leave, shut, probe, reopen, MayStep, reopening, role_generation, word_after, view_after, new_pass, view_after_split, first_word, first_view, IsPlan}
use Rattle.cs_gate.specs.Moves.{IsGate, Tells, ProbeTells, ReopenTells}
use Rattle.cs_gate.specs.Handles.{pass_state}
use Rattle.cs_gate.proofs.RuleKept.{rule_of}

-- a step of this kind is allowed, with what is known of its word and of the views
pub allowed : (plan : Plan) (slots id : ℕ) (me : Me (Unit {0}) View) (kind : StepKind) (f : ℕ → ℕ) (then : ℕ → Me (Unit {0}) View → Type 0)
    → MayStep kind me.0.role → ((n : ℕ) → f n ≡ word_after kind me.0.role n)
    → ((n : ℕ) (views : List View) → MeetsRule plan n views → get_elem? views id ≡ some me.0 → then n (view_after kind n me.0, me.1))
    → Allows (IsGate plan) slots id me 0 f then
allowed plan slots id me kind f then may is tells s h _ at _ =
    let n : ℕ = get_or s.words 0 0 in
    let found : h.word ≡ n = sym (ap (λ ws. get_or ws 0 0) h.words) in
    let reached : Reaches plan n s.views = subst (λ k. Reaches plan k s.views) found h.reached in
    let now : Reaches plan (word_after kind me.0.role n) (set s.views id (view_after kind n me.0)) = steps kind n s.views id me.0 reached at may in (
      view_after kind n me.0,
      keeps,
      tt,
      record {
        word = word_after kind me.0.role n;
        words = ap (λ ws. set ws 0 (f n)) h.words ∙ ap (λ k. k ∷ []) (is n);
        reached = now;
        rule = rule_of plan _ _ now;
      },
      tells n s.views (rule_of plan n s.views reached) at,
    )

-- a pass may be split off a seat with a spare one
pub split_allowed : (plan : Plan) (id : ℕ) (v : View) → 0 < v.spare → Splits (IsGate plan) id v (view_after_split v) new_pass
split_allowed plan id v some_left s h at =
    let now : Reaches plan h.word (set s.views id (view_after_split v) ++ new_pass ∷ []) = splits h.word s.views id v h.reached at some_left in
    record { word = h.word; words = h.words; reached = now; rule = rule_of plan _ _ now }

-- the table of a new gate
pub opened : (plan : Plan) (word : ℕ) → IsPlan plan → word ≡ first_word plan → IsGate plan (opening (word ∷ []) [] (first_view plan))
opened plan word fine is =
    let now : Reaches plan (first_word plan) (first_view plan ∷ []) = begins fine in
    record { word = first_word plan; words = ap (λ k. k ∷ []) is; reached = now; rule = rule_of plan _ _ now }

-- what a state says, as the state
state_open : (k : KeeperState) → is_open k ≡ true → (g : ℕ) × (k ≡ Open g)
state_open (Open g) e = (g, refl)
state_open (Shut g) e = absurd (cc)
state_open (Drained g) e = absurd (cc)

state_drained : (k : KeeperState) → is_drained k ≡ true → k ≡ Drained (keeper_generation k)
state_drained (Open g) e = absurd (cc)
state_drained (Shut g) e = absurd (cc)
state_drained (Drained g) e = refl

-- the steps of a keeper of this state
pub shut_allowed : (plan : Plan) (slots id : ℕ) (me : Me (Unit {0}) View) (k : KeeperState) → me.0.role ≡ roles.Keeper k → is_open k ≡ true
    → Allows (IsGate plan) slots id me 0 (λ n. bit_or n (2 ^ 63)) (Tells shut (step slots 0 (2 ^ 63) 0 none) me)
shut_allowed plan slots id me k was unshut =
    let o = state_open k unshut in
    allowed plan slots id me shut (λ n. bit_or n (2 ^ 63)) (Tells shut (step slots 0 (2 ^ 63) 0 none) me) (o.0, was ∙ ap roles.Keeper o.1) (λ n. refl) (λ n views r at. refl)

pub probe_allowed : (plan : Plan) (slots id : ℕ) (me : Me (Unit {0}) View) (k : KeeperState) → me.0.role ≡ roles.Keeper k → is_open k ≡ false
    → Allows (IsGate plan) slots id me 0 (λ n. n) (ProbeTells (step slots 0 0 0 none) me)
probe_allowed plan slots id me k was unopen =
    allowed plan slots id me probe (λ n. n) (ProbeTells (step slots 0 0 0 none) me) (k, was, unopen) (λ n. refl)
    (λ n views r at. let mine = r.one id k (me.0, at, was) in (refl, r.closed ∙ ap (λ m. not (is_open m)) (sym mine.1) ∙ ap not unopen, r.generation_is ∙ ap keeper_generation (sym mine.1) ∙ ap role_generation (sym was)))

-- the generations that a reopening adds to the word
generations-reopening : (old new : ℕ) → old < new → new < 2 ^ 31 → old + reopening old new / 2 ^ 32 % 2 ^ 31 ≡ new
generations-reopening old new above range = omega arith

pub reopen_allowed : (plan : Plan) (slots id : ℕ) (me : Me (Unit {0}) View) (k : KeeperState) (new added : ℕ) → me.0.role ≡ roles.Keeper k → is_drained k ≡ true → keeper_generation k < new → new < 2 ^ 31
    → added ≡ reopening (keeper_generation k) new → Allows (IsGate plan) slots id me 0 (λ n. (n + added) % 2 ^ 64) (ReopenTells (step slots 0 added 0 none) me)
reopen_allowed plan slots id me k new added was drained above range is =
    let old : role_generation me.0.role ≡ keeper_generation k = ap role_generation was in
    let by : role_generation me.0.role + added / 2 ^ 32 % 2 ^ 31 ≡ new = ap₂ (λ g a. g + a / 2 ^ 32 % 2 ^ 31) old is ∙ generations-reopening (keeper_generation k) new above range in
    allowed plan slots id me (reopen new) (λ n. (n + added) % 2 ^ 64) (ReopenTells (step slots 0 added 0 none) me)
    (keeper_generation k, was ∙ ap roles.Keeper (state_drained k drained), above, range)
    (λ n. ap (λ a. (n + a) % 2 ^ 64) (is ∙ ap (λ g. reopening g new) (sym old)))
    (λ n views r at. ap (λ g. view_after (reopen g) n me.0) (sym by))

-- the steps of a pass
pub enter_allowed : (plan : Plan) (slots id : ℕ) (me : Me (Unit {0}) View) (inside : Option ℕ) → me.0.role ≡ roles.Pass (pass_state inside) → IsNone inside
    → Allows (IsGate plan) slots id me 0 (λ n. (n + 1) % 2 ^ 64) (Tells enter (step slots 0 1 0 none) me)
enter_allowed plan slots id me None was out = allowed plan slots id me enter (λ n. (n + 1) % 2 ^ 64) (Tells enter (step slots 0 1 0 none) me) was (λ n. refl) (λ n views r at. refl)
enter_allowed plan slots id me (Some g) was out = absurd (cc)

pub turn_back_allowed : (plan : Plan) (slots id : ℕ) (me : Me (Unit {0}) View) → me.0.role ≡ roles.Pass Turning
    → Allows (IsGate plan) slots id me 0 (λ n. (n + (2 ^ 64 - 1)) % 2 ^ 64) (Tells turn_back (step slots 0 1 0 none) me)
turn_back_allowed plan slots id me was = allowed plan slots id me turn_back (λ n. (n + (2 ^ 64 - 1)) % 2 ^ 64) (Tells turn_back (step slots 0 1 0 none) me) was (λ n. refl) (λ n views r at. refl)

pub leave_allowed : (plan : Plan) (slots id : ℕ) (me : Me (Unit {0}) View) (inside : Option ℕ) → me.0.role ≡ roles.Pass (pass_state inside) → IsSome inside
    → Allows (IsGate plan) slots id me 0 (λ n. (n + (2 ^ 64 - 1)) % 2 ^ 64) (Tells leave (step slots 0 1 0 none) me)
leave_allowed plan slots id me (Some g) was some_in = allowed plan slots id me leave (λ n. (n + (2 ^ 64 - 1)) % 2 ^ 64) (Tells leave (step slots 0 1 0 none) me) (g, was) (λ n. refl) (λ n views r at. refl)
leave_allowed plan slots id me None was some_in = absurd (cc)
