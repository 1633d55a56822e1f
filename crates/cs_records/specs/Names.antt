-- Which snapshot has a name.
use Rattle.std.specs.Prelude.{ℕ, ◌==◌, ◌&&◌, Bool, List, [], ◌∷◌, Option, Some, None, is_some, if◌then◌else◌}
use Rattle.std.specs.Option.{option_and_then}
use Rattle.std.specs.Str.{bytes_eq}
use Rattle.std.specs.BTreeMap.{get}
use Rattle.std.specs.Ordering.{nat_cmp}
use Rattle.std.specs.HashMap.{get_by}
use Rattle.cs_laws.specs.declared.records.Record.{Record}
use Rattle.cs_laws.specs.declared.records.RecordBody.{RecordBody}
use Rattle.cs_laws.specs.declared.records.RecordBody.TheVariants as bodies
use Rattle.cs_records.specs.declared.names.NameTable.{NameTable}
use Rattle.cs_records.specs.declared.names.Names.{Names}

abbrev pub last_in : NameTable → List ℕ → Option ℕ
last_in table name = get_by (λ k. bytes_eq name k.items) table.last

-- the number of the last snapshot of a directory that has the name
abbrev pub name_in : Names → ℕ → List ℕ → Option ℕ
name_in names d name = option_and_then (λ table. last_in table name) (get nat_cmp names.tables d)

-- a snapshot of the directory was taken
abbrev pub has_names : Names → ℕ → Bool
has_names names d = is_some (get nat_cmp names.tables d)

abbrev pub named_then : ℕ → List ℕ → RecordBody → Option ℕ → Option ℕ
named_then d name (bodies.Snap number e other) was = if (e == d) && bytes_eq name other then Some number else was
named_then d name _ was = was

abbrev pub named_after : ℕ → List ℕ → Option ℕ → List Record → Option ℕ
named_after d name was [] = was
named_after d name was (r ∷ rs) = named_after d name (named_then d name r.body was) rs

-- the same by the records, removed or not
abbrev pub last_named : ℕ → List ℕ → List Record → Option ℕ
last_named d name rs = named_after d name None rs
