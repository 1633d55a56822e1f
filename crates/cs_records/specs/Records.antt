-- The records of the server's log, as contracts see them.
use Rattle.std.specs.Prelude.{◌≡◌, ◌++◌, List}
use Rattle.cs_laws.specs.declared.records.Record.{Record}

-- the durable records, and those behind them that aren't, each the oldest first
pub record RecordLog : Type 0 where
  pub durable : List Record
  pub fresh : List Record

abbrev pub all : RecordLog → List Record
all s = s.durable ++ s.fresh

-- a front of the records that weren't durable became so
pub record Settles (old new : RecordLog) : Type 0 where
  pub front : List Record
  pub durable : new.durable ≡ old.durable ++ front
  pub fresh : old.fresh ≡ front ++ new.fresh
