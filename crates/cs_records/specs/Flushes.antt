-- The flushes of each file, by a table of them.
use Rattle.std.specs.Prelude.{ℕ, unwrap_or}
use Rattle.std.specs.BTreeMap.{get}
use Rattle.std.specs.Ordering.{nat_cmp}
use Rattle.cs_records.specs.Flushed.{Flushed, none_flushed}
use Rattle.cs_records.specs.declared.flushes.Flushes.{Flushes}

abbrev pub flushed_in : Flushes → ℕ → Flushed
flushed_in t f = unwrap_or (get nat_cmp t.files f) none_flushed
