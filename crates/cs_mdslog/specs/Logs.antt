-- What contracts see of a log.
use Rattle.std.specs.Prelude.{ℕ, List}
use Rattle.cs_faults.specs.Plans.{CallPlan}

-- a log in memory: the bytes of each record, the oldest first, and how many of the records are durable
pub record LogState : Type 0 where
  pub records : List (List ℕ)
  pub durable : ℕ

-- a faulty log: the same, and its calls
pub record FaultyState : Type 0 where
  pub log : LogState
  pub plan : CallPlan
