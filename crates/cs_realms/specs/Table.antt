-- The tables of records and contexts.
use Rattle.std.specs.Prelude.{◌≡◌, List}
use Rattle.cs_snapctx.specs.declared.realm.RealmRecord.{RealmRecord}
use Rattle.cs_snapctx.specs.Context.{Context}
use Rattle.cs_snapctx.specs.Contexts.{all_contexts}
use Rattle.cs_snapctx.specs.Records.{AreDistinct}

-- no realm has two records, and each record's context stands at its place
pub record HasContexts (rs : List RealmRecord) (cs : List Context) : Type 0 where
  pub distinct : AreDistinct rs
  pub contexts : cs ≡ all_contexts rs
