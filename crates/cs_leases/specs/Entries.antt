-- The entries of the table of leases.
use Rattle.std.specs.Prelude.{ℕ, List, map}
use Rattle.cs_leases.specs.declared.entry.Entry.{Entry}
use Rattle.cs_leases.specs.declared.leases.Lease.{Lease}
use Rattle.cs_leases.specs.Leases.{EntryLease}

-- the key of an entry
abbrev pub entry_of : ℕ → List ℕ → Entry
entry_of dir name = record { dir = dir; name = record { items = name } }

abbrev pub entry_lease : Entry × Lease → EntryLease
entry_lease e = record { dir = e.0.dir; name = e.0.name.items; ino = e.1.ino; until = e.1.until }

-- the leases in their order in the table
abbrev pub listed : List (Entry × Lease) → List EntryLease
listed es = map entry_lease es
