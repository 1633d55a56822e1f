-- When a log holds records of the server: their spellings, in order, of which so many are durable.
use Rattle.std.specs.Prelude.{◌≡◌, ℕ, ◌⊎◌, List, ◌++◌, length, map}
use Rattle.cs_laws.specs.declared.records.Record.{Record}
use Rattle.cs_laws.specs.Spellings.{record_bytes}

-- rs, n: the log's records, and how many of them are durable; ds, fs: the durable records, and those behind them
pub record LogIs (rs : List (List ℕ)) (n : ℕ) (ds fs : List Record) : Type 0 where
  pub spelled : rs ≡ map record_bytes (ds ++ fs)
  pub durable : n ≡ length ds

-- after a fault the log is as before, or as what was under way would leave it: es, gs
abbrev pub LogHalts : List (List ℕ) → ℕ → List Record → List Record → List Record → List Record → Type 0
LogHalts rs n ds fs es gs = LogIs rs n ds fs ⊎ LogIs rs n es gs
