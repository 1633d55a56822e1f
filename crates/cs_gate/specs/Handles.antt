-- What a contract sees of a keeper and of a pass.
use Rattle.std.specs.Prelude.{◌≡◌, ℕ, true, false, List, [], ◌∷◌, ◌++◌, length, Option, Some, None, All, ◌≤◌}
use mathlib.Core.Option.{some}
use lib.ListN.{get_elem?}
use Rattle.atomic_table.specs.Seated.{TableId}
use Rattle.cs_gate.specs.declared.views.PassState.{PassState}
use Rattle.cs_gate.specs.declared.views.PassState.TheVariants.{Out, Inside}
use Rattle.cs_gate.specs.declared.views.KeeperState.{KeeperState}
use Rattle.cs_gate.specs.declared.views.KeeperState.TheVariants as keepers
use Rattle.cs_gate.specs.declared.views.Role.TheVariants as roles
use Rattle.cs_gate.specs.declared.views.View.{View}
use Rattle.cs_gate.specs.declared.views.Plan.{Plan}
use Rattle.cs_gate.specs.declared.gate.Gate.{Gate}
use Rattle.cs_gate.specs.declared.keeper.Probe.{Probe}
use Rattle.cs_gate.specs.declared.keeper.Probe.TheVariants as probes
use Rattle.cs_gate.specs.declared.pass.Entered.{Entered}
use Rattle.cs_gate.specs.declared.pass.Entered.TheVariants as entries
use Rattle.cs_gate.specs.Gate.{is_closed, generation_of, count_of, keeper_generation, Reaches}

-- which gate it is, and for what it was made
pub record GateId : Type 0 where
  pub table : TableId
  pub plan : Plan

abbrev pub gate_id : Gate → GateId
gate_id g = record { table = g.word.shared.table_id; plan = g.word.shared.key }

-- a keeper: its gate, its seat there, its state, and the words that its probes found, in order
pub record KeeperHandle : Type 0 where
  pub gate : GateId
  pub seat : ℕ
  pub state : KeeperState
  pub reads : List ℕ

-- a pass: its gate, its seat there, the generation that it is inside of, and the words that its calls of `enter` found, in order
pub record PassHandle : Type 0 where
  pub gate : GateId
  pub seat : ℕ
  pub inside : Option ℕ
  pub reads : List ℕ

-- between two calls a pass is out or inside
abbrev pub pass_state : Option ℕ → PassState
pass_state None = Out
pass_state (Some g) = Inside g

-- their views at the gate
abbrev pub keeper_view : KeeperState → List ℕ → View
keeper_view state reads = record { role = roles.Keeper state; reads = reads; spare = 0 }

abbrev pub pass_view : Option ℕ → List ℕ → View
pass_view inside reads = record { role = roles.Pass (pass_state inside); reads = reads; spare = 0 }

-- The words and views in which a handle may find its gate between any two steps: some that the steps of such a gate come to, where its seat has its view

abbrev pub KeeperFinds : KeeperHandle → ℕ → List View → Type 0
KeeperFinds k word views = Reaches k.gate.plan word views × (get_elem? views k.seat ≡ some (keeper_view k.state k.reads))

abbrev pub PassFinds : PassHandle → ℕ → List View → Type 0
PassFinds p word views = Reaches p.gate.plan word views × (get_elem? views p.seat ≡ some (pass_view p.inside p.reads))

-- The calls

-- what a probe says of the word that it found
abbrev pub ProbeSays : ℕ → Probe → Type 0
ProbeSays word probes.Drained = count_of word ≡ 0
ProbeSays word (probes.Occupied count) = (count ≡ count_of word) × (1 ≤ count)

-- the state of the keeper then
abbrev pub probed_state : Probe → KeeperState → KeeperState
probed_state probes.Drained k = keepers.Drained (keeper_generation k)
probed_state (probes.Occupied count) k = k

-- a probe: its own step found this word, closed and of the keeper's generation, and the answer follows from the word
pub record IsProbe (old new : KeeperHandle) (answer : Probe) : Type 0 where
  pub word : ℕ
  pub read : new.reads ≡ old.reads ++ word ∷ []
  pub closed : is_closed word ≡ true
  pub generation : generation_of word ≡ keeper_generation old.state
  pub answers : ProbeSays word answer
  pub state : new.state ≡ probed_state answer old.state
  pub same : (new.gate ≡ old.gate) × (new.seat ≡ old.seat)

-- what a call of `enter` says of the word that it found
abbrev pub EntrySays : ℕ → Entered → Type 0
EntrySays word (entries.Inside g) = (is_closed word ≡ false) × (g ≡ generation_of word)
EntrySays word (entries.Shut g) = (is_closed word ≡ true) × (g ≡ generation_of word)

-- where the pass is then
abbrev pub entered_generation : Entered → Option ℕ
entered_generation (entries.Inside g) = Some g
entered_generation (entries.Shut g) = None

-- a call of `enter`: its own step found this word, and the answer follows from the word
pub record IsEntry (old new : PassHandle) (answer : Entered) : Type 0 where
  pub word : ℕ
  pub read : new.reads ≡ old.reads ++ word ∷ []
  pub answers : EntrySays word answer
  pub inside : new.inside ≡ entered_generation answer
  pub same : (new.gate ≡ old.gate) × (new.seat ≡ old.seat)

-- A new gate

-- its keeper is drained in this generation, and has found no word yet
pub record IsNewKeeper (gate : GateId) (generation : ℕ) (k : KeeperHandle) : Type 0 where
  pub gate_is : k.gate ≡ gate
  pub state : k.state ≡ keepers.Drained generation
  pub reads : k.reads ≡ []

-- a pass of it is out, and has found no word yet
pub record IsNewPass (gate : GateId) (p : PassHandle) : Type 0 where
  pub gate_is : p.gate ≡ gate
  pub inside : p.inside ≡ None
  pub reads : p.reads ≡ []

-- it is made for so many passes from this generation on, its keeper is drained, and its passes, so many, are out
pub record IsNewGate (passes generation : ℕ) (k : KeeperHandle) (all : List PassHandle) : Type 0 where
  pub plan : k.gate.plan ≡ record { passes = passes; generation = generation }
  pub keeper : IsNewKeeper k.gate generation k
  pub count : length all ≡ passes
  pub out : All (IsNewPass k.gate) all
