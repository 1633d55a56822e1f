-- What contracts see of the forms in memory.
use Rattle.std.specs.Prelude.{◌≡◌, ℕ, List, ◌++◌, length, take, drop, min}
use Rattle.cs_faults.specs.Plans.{CallPlan}

-- a sink in memory: the bytes taken, and how often it failed
pub record SinkState : Type 0 where
  pub taken : List ℕ
  pub faults : ℕ

-- a faulty form: the bytes left or taken, and its calls
pub record FaultyState : Type 0 where
  pub bytes : List ℕ
  pub plan : CallPlan

-- a read in memory gives as many bytes as are left and have room, and leaves the rest
pub record ReadsFront (left_old left_new buf_old buf_new : List ℕ) (count : ℕ) : Type 0 where
  pub as_many : count ≡ min (length left_old) (length buf_old)
  pub left : left_new ≡ drop count left_old
  pub given : buf_new ≡ take count left_old ++ drop count buf_old
