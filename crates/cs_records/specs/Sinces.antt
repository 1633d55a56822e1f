-- From which number on the snapshots of realms above cover a directory.
use Rattle.std.specs.Prelude.{ℕ, ◌+◌, ◌==◌, Bool, List, [], ◌∷◌, Option, Some, None, max, unwrap_or, if◌then◌else◌}
use Rattle.std.specs.BTreeMap.{get}
use Rattle.std.specs.Ordering.{nat_cmp}
use Rattle.cs_laws.specs.declared.records.Record.{Record}
use Rattle.cs_laws.specs.declared.records.RecordBody.{RecordBody}
use Rattle.cs_laws.specs.Made.{made_of, makes_dir}
use Rattle.cs_laws.specs.Realms.{number_of}
use Rattle.cs_records.specs.declared.sinces.Sinces.{Sinces}

-- of the directories that requests made, by the table
abbrev pub made_in_table : Sinces → ℕ → Option ℕ
made_in_table t d = get nat_cmp t.made d

abbrev pub since_in : Sinces → ℕ → ℕ
since_in t d = unwrap_or (made_in_table t d) 1

-- the first number counts
abbrev pub first_of : Option ℕ → Bool → ℕ → Option ℕ
first_of (Some s) makes greatest = Some s
first_of None makes greatest = if makes then Some (greatest + 1) else None

-- one more is made; greatest: the greatest number before
abbrev pub with_directory : ℕ → ℕ → (ℕ → Option ℕ) → ℕ → Option ℕ
with_directory dir greatest of d = first_of (of d) (dir == d) greatest

-- a record more
abbrev pub made_then : RecordBody → ℕ → (ℕ → Option ℕ) → ℕ → Option ℕ
made_then b greatest of d = first_of (of d) (makes_dir d (made_of b)) greatest

-- the same by the records, of which n is the greatest number before them
abbrev pub made_from : ℕ → ℕ → List Record → Option ℕ
made_from d n [] = None
made_from d n (r ∷ rs) = if makes_dir d (made_of r.body) then Some (n + 1) else made_from d (max n (number_of r.body)) rs

abbrev pub made_by_records : ℕ → List Record → Option ℕ
made_by_records d rs = made_from d 0 rs
