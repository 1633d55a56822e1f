-- What is kept beside the records.
use Rattle.std.specs.Prelude.{◌≡◌, ℕ, ◌≤◌, List, length, nat_eq, take}
use Rattle.std.specs.List.{list_any}
use Rattle.indexmap.specs.IndexMap.{get}
use Rattle.indexmap.specs.IndexSet.{contains}
use Rattle.cs_laws.specs.declared.records.Record.{Record}
use Rattle.cs_laws.specs.Realms.{is_snap_of}
use Rattle.cs_laws.specs.Standing.{dir_of, greatest_number, greatest_request, is_removed}
use Rattle.cs_records.specs.declared.index.Index.{Index}
use Rattle.cs_records.specs.declared.own_table.OwnTable.{OwnTable}
use Rattle.cs_records.specs.Flushed.{flushed}
use Rattle.cs_records.specs.Flushes.{flushed_in}
use Rattle.cs_records.specs.Log.{IsLog}
use Rattle.cs_records.specs.Names.{has_names, last_named, name_in}
use Rattle.cs_records.specs.declared.sinces.Sinces.{Sinces}
use Rattle.cs_records.specs.OwnTable.{had, own_in}
use Rattle.cs_records.specs.Requests.{answered_from, answered_in}
use Rattle.cs_records.specs.Sinces.{made_by_records, made_in_table}

-- rs: all records. The look-ups give what these say
pub record IsIndexed (rs : List Record) (t : Index) : Type 0 where
  pub log : IsLog rs
  pub number : t.sinces.greatest ≡ greatest_number rs
  pub made : (d : ℕ) → made_in_table t.sinces d ≡ made_by_records d rs
  pub dirs : (s : ℕ) → get nat_eq t.dirs s ≡ dir_of s rs
  pub removed : (s : ℕ) → contains nat_eq t.removed s ≡ is_removed s rs
  pub names : (d : ℕ) (name : List ℕ) → name_in t.names d name ≡ last_named d name rs
  pub realms : (d : ℕ) → has_names t.names d ≡ list_any (λ r. is_snap_of d r.body) rs
  pub flushes : (f : ℕ) → flushed_in t.flushes f ≡ flushed f rs
  pub last : t.requests.last ≡ greatest_request rs
  pub requests : (tid : ℕ) → answered_in t.requests tid ≡ answered_from tid 0 rs

-- so many records are durable, and the realms are up to those
pub record AreSettled (rs : List Record) (durable : ℕ) (t : OwnTable) (sinces : Sinces) : Type 0 where
  pub within : durable ≤ length rs
  pub realms : (d : ℕ) → own_in t d ≡ had d (take durable rs)
  pub greatest : sinces.greatest ≡ greatest_number (take durable rs)
  pub made : (d : ℕ) → made_in_table sinces d ≡ made_by_records d (take durable rs)

pub record IsKept (rs : List Record) (durable : ℕ) (t : Index) (realms : OwnTable) (sinces : Sinces) : Type 0 where
  pub index : IsIndexed rs t
  pub settled : AreSettled rs durable realms sinces
