-- The entries of the table of references.
use Rattle.std.specs.Prelude.{◌≡◌, ℕ, ◌≤◌, List, length, slice_index}
use Rattle.std.specs.List.{AllByRecursion}
use Rattle.cs_parts.specs.declared.references.Live.{Live}
use Rattle.cs_refs.specs.declared.table.Key.{Key}

-- a reference stands under its own name, and its number was drawn
pub record IsEntry (begun : List ℕ) (e : Key × Live) : Type 0 where
  pub caller : e.0.caller ≡ e.1.caller
  pub number : e.0.number ≡ e.1.number
  pub drawn : e.1.number ≤ slice_index begun e.1.caller

-- each is such an entry, and at most 256 references live
pub record AreEntries (entries : List (Key × Live)) (begun : List ℕ) : Type 0 where
  pub each : AllByRecursion (IsEntry begun) entries
  pub few : length entries ≤ 256
