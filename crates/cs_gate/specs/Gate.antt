-- A gate: its word, what its keeper and its passes know, the rule that ties them, and the steps.
use Rattle.std.specs.Prelude.{◌≡◌, ℕ, ◌+◌, ◌-◌, ◌*◌, ◌/◌, ◌%◌, ◌^◌, ◌<◌, ◌≤◌, ◌⊎◌, Bool, true, false, not, List, [], ◌∷◌, ◌++◌, length, sum_by, nat_le, ◌==◌, if◌then◌else◌, bit_or, slice_set}
use mathlib.Core.Option.{some}
use lib.ListN.{get_elem?}
use Rattle.cs_gate.specs.declared.views.PassState.{PassState}
use Rattle.cs_gate.specs.declared.views.PassState.TheVariants.{Out, Turning, Inside}
use Rattle.cs_gate.specs.declared.views.KeeperState.{KeeperState}
use Rattle.cs_gate.specs.declared.views.KeeperState.TheVariants.{Open, Shut, Drained}
use Rattle.cs_gate.specs.declared.views.Role.{Role}
use Rattle.cs_gate.specs.declared.views.Role.TheVariants as roles
use Rattle.cs_gate.specs.declared.views.View.{View}
use Rattle.cs_gate.specs.declared.views.Plan.{Plan}

-- The word: bit 63 is set while it is closed, bits 32 to 62 are the generation, and bits 0 to 31 the count.

abbrev pub is_closed : ℕ → Bool
is_closed word = nat_le (2 ^ 63) word

abbrev pub generation_of : ℕ → ℕ
generation_of word = word / 2 ^ 32 % 2 ^ 31

abbrev pub count_of : ℕ → ℕ
count_of word = word % 2 ^ 32

-- The keeper

abbrev pub keeper_generation : KeeperState → ℕ
keeper_generation (Open g) = g
keeper_generation (Shut g) = g
keeper_generation (Drained g) = g

abbrev pub is_open : KeeperState → Bool
is_open (Open g) = true
is_open (Shut g) = false
is_open (Drained g) = false

abbrev pub is_drained : KeeperState → Bool
is_drained (Open g) = false
is_drained (Shut g) = false
is_drained (Drained g) = true

-- The views of all seats

-- the seat has this role
abbrev pub HasRole : List View → ℕ → Role → Type 0
HasRole views seat role = (v : View) × (get_elem? views seat ≡ some v) × (v.role ≡ role)

-- how much a seat adds to the count: a pass that is turning or inside adds 1
abbrev pub weight : Role → ℕ
weight (roles.Pass Out) = 0
weight (roles.Pass Turning) = 1
weight (roles.Pass (Inside g)) = 1
weight (roles.Keeper k) = 0
weight roles.Spent = 0

-- the number of passes that are turning or inside
abbrev pub counted_passes : List View → ℕ
counted_passes views = sum_by (λ v. weight v.role) views

abbrev pub NobodyIsInside : List View → Type 0
NobodyIsInside views = (seat g : ℕ) → ¬ HasRole views seat (roles.Pass (Inside g))

-- a keeper is open or shut in this generation
abbrev pub HoldsGeneration : List View → ℕ → Type 0
HoldsGeneration views g = (seat : ℕ) × (k : KeeperState) × HasRole views seat (roles.Keeper k) × ((k ≡ Open g) ⊎ (k ≡ Shut g))

-- The rule of a gate between any two steps. A spent seat counts for nothing
pub record MeetsRule (plan : Plan) (word : ℕ) (views : List View) : Type 0 where
  -- there is one keeper
  pub seat : ℕ
  pub keeper : KeeperState
  pub kept : HasRole views seat (roles.Keeper keeper)
  pub one : (other : ℕ) (k : KeeperState) → HasRole views other (roles.Keeper k) → (other ≡ seat) × (k ≡ keeper)
  -- the word is closed exactly where the keeper isn't open, and has the keeper's generation
  pub closed : is_closed word ≡ not (is_open keeper)
  pub generation_is : generation_of word ≡ keeper_generation keeper
  -- the count is the number of passes that are turning or inside
  pub count : count_of word ≡ counted_passes views
  -- who is inside is inside the word's generation, and nobody is while the keeper is drained
  pub inside : (seat g : ℕ) → HasRole views seat (roles.Pass (Inside g)) → g ≡ generation_of word
  pub drained : is_drained keeper ≡ true → NobodyIsInside views
  -- the word has 64 bits, and there are at most 64 passes: those that stand, and those that may still be split off
  pub fits : word < 2 ^ 64
  pub few : plan.passes ≤ 64
  pub seats : length views + sum_by (λ v. v.spare) views ≡ 1 + plan.passes

-- The steps

-- what a pass is after it found this word as it entered
abbrev pub entry_of : ℕ → PassState
entry_of word = if is_closed word then Turning else Inside (generation_of word)

-- what a closed keeper is after it found this word as it probed
abbrev pub probe_of : ℕ → KeeperState → KeeperState
probe_of word k = if count_of word == 0 then Drained (keeper_generation k) else k

-- the steps that one seat takes. A reopening is for a new generation
pub data StepKind : Type 0 where
  enter : StepKind
  turn_back : StepKind
  leave : StepKind
  shut : StepKind
  probe : StepKind
  reopen : ℕ → StepKind

-- who takes a step of this kind
abbrev pub MayStep : StepKind → Role → Type 0
MayStep enter role = role ≡ roles.Pass Out
MayStep turn_back role = role ≡ roles.Pass Turning
MayStep leave role = (g : ℕ) × (role ≡ roles.Pass (Inside g))
MayStep shut role = (g : ℕ) × (role ≡ roles.Keeper (Open g))
MayStep probe role = (k : KeeperState) × (role ≡ roles.Keeper k) × (is_open k ≡ false)
MayStep (reopen new) role = (g : ℕ) × (role ≡ roles.Keeper (Drained g)) × (g < new) × (new < 2 ^ 31)

-- the generation of a keeper's role
abbrev pub role_generation : Role → ℕ
role_generation (roles.Pass p) = 0
role_generation (roles.Keeper k) = keeper_generation k
role_generation roles.Spent = 0

-- what a reopening adds to the word, wrapping: the difference of the generations, and the closed bit
abbrev pub reopening : ℕ → ℕ → ℕ
reopening old new = 2 ^ 63 + (new - old) * 2 ^ 32

-- what the word becomes
abbrev pub word_after : StepKind → Role → ℕ → ℕ
word_after enter role word = (word + 1) % 2 ^ 64
word_after turn_back role word = (word + (2 ^ 64 - 1)) % 2 ^ 64
word_after leave role word = (word + (2 ^ 64 - 1)) % 2 ^ 64
word_after shut role word = bit_or word (2 ^ 63)
word_after probe role word = word
word_after (reopen new) role word = (word + reopening (role_generation role) new) % 2 ^ 64

abbrev pub probed_role : ℕ → Role → Role
probed_role word (roles.Pass p) = roles.Pass p
probed_role word (roles.Keeper k) = roles.Keeper (probe_of word k)
probed_role word roles.Spent = roles.Spent

-- the role of who stepped, by the word that the step found
abbrev pub role_after : StepKind → ℕ → Role → Role
role_after enter word role = roles.Pass (entry_of word)
role_after turn_back word role = roles.Pass Out
role_after leave word role = roles.Pass Out
role_after shut word role = roles.Keeper (Shut (role_generation role))
role_after probe word role = probed_role word role
role_after (reopen new) word role = roles.Keeper (Open new)

-- enter and probe add the word that they found to the reads
abbrev pub reads_after : StepKind → ℕ → List ℕ → List ℕ
reads_after enter word reads = reads ++ word ∷ []
reads_after turn_back word reads = reads
reads_after leave word reads = reads
reads_after shut word reads = reads
reads_after probe word reads = reads ++ word ∷ []
reads_after (reopen new) word reads = reads

-- the view of who stepped, by the word that the step found
abbrev pub view_after : StepKind → ℕ → View → View
view_after kind word v = record { role = role_after kind word v.role; reads = reads_after kind word v.reads; spare = v.spare }

-- the view of a new pass, and that of a pass that was joined
abbrev pub new_pass : View
new_pass = record { role = roles.Pass Out; reads = []; spare = 0 }

abbrev pub spent_view : View
spent_view = record { role = roles.Spent; reads = []; spare = 0 }

-- a seat's view once a pass was split off it
abbrev pub view_after_split : View → View
view_after_split v = record { role = v.role; reads = v.reads; spare = v.spare - 1 }

-- The beginning: the gate is closed and drained, and no pass is split off yet

abbrev pub first_word : Plan → ℕ
first_word plan = 2 ^ 63 + plan.generation * 2 ^ 32

abbrev pub first_view : Plan → View
first_view plan = record { role = roles.Keeper (Drained plan.generation); reads = []; spare = plan.passes }

-- what a gate may be for
abbrev pub IsPlan : Plan → Type 0
IsPlan plan = (plan.passes ≤ 64) × (plan.generation < 2 ^ 31)

-- The words and views that a gate comes to: by the steps of one seat, by a pass that is split off, and by a pass that is out and joined to another seat
pub data Reaches (plan : Plan) : ℕ → List View → Type 0 where
  begins : IsPlan plan → Reaches plan (first_word plan) (first_view plan ∷ [])
  steps : (kind : StepKind) (word : ℕ) (views : List View) (seat : ℕ) (v : View) → Reaches plan word views → get_elem? views seat ≡ some v → MayStep kind v.role
      → Reaches plan (word_after kind v.role word) (slice_set views seat (view_after kind word v))
  splits : (word : ℕ) (views : List View) (seat : ℕ) (v : View) → Reaches plan word views → get_elem? views seat ≡ some v → 0 < v.spare
      → Reaches plan word (slice_set views seat (view_after_split v) ++ new_pass ∷ [])
  joins : (word : ℕ) (views : List View) (seat : ℕ) (v : View) → Reaches plan word views → get_elem? views seat ≡ some v → v.role ≡ roles.Pass Out → v.spare ≡ 0
      → Reaches plan word (slice_set views seat spent_view)
