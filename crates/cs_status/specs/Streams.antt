-- What a source and a sink have at one moment.
use Rattle.std.specs.Prelude.{ℕ, List, Option}

-- the bytes left and the bytes taken, where these are known, and how often each failed
pub record Streams : Type 0 where
  pub left : Option (List ℕ)
  pub source_faults : ℕ
  pub taken : Option (List ℕ)
  pub sink_faults : ℕ
