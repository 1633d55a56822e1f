-- The operations that write-back has sent, in the order of their numbers.
use Rattle.std.specs.Prelude.{◌≡◌, ℕ, ◌==◌, List, Option, Some, if◌then◌else◌}
use Rattle.std.specs.Option.{option_map}
use Rattle.std.specs.Ordering.{nat_cmp}
use Rattle.std.specs.Map.{lookup}
use Rattle.std.specs.BTreeMap.{is_at}
use Rattle.cs_laws.specs.declared.objects.ObjOp.{ObjOp}
use Rattle.cs_states.specs.declared.delivery.Delivery.{Delivery}
use Rattle.cs_states.specs.Delivery.{sent_once}
use Rattle.cs_writeback.specs.declared.operations.SentOp.{SentOp}

-- the operation of a number, and how far it has come
abbrev pub operation_at : List (ℕ × SentOp) → ℕ → Option SentOp
operation_at os t = lookup (is_at (nat_cmp t)) os

abbrev pub delivery_at : List (ℕ × SentOp) → ℕ → Option Delivery
delivery_at os t = option_map (λ x. x.delivery) (operation_at os t)

-- it is sent for the first time
abbrev pub first_sent : ObjOp → SentOp
first_sent op = record { op = op; delivery = sent_once }

-- one more stands under its number
abbrev pub AddsOperation : List (ℕ × SentOp) → List (ℕ × SentOp) → SentOp → Type 0
AddsOperation old new x = (u : ℕ) → operation_at new u ≡ (if u == x.op.tid then Some x else operation_at old u)

-- the operation of a number, where there is one, goes a step, and no other does
abbrev pub stepped : (Delivery → Delivery) → SentOp → SentOp
stepped step x = record x { delivery = step x.delivery }

abbrev pub TakesStep : List (ℕ × SentOp) → List (ℕ × SentOp) → ℕ → (Delivery → Delivery) → Type 0
TakesStep old new t step =
    (u : ℕ) → operation_at new u ≡ (if u == t then option_map (stepped step) (operation_at old t) else operation_at old u)
