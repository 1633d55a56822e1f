-- Two leases, on entries of one name in two directories.
use Rattle.std.specs.Prelude.{ℕ, List, [], ◌∷◌, codes}
use Rattle.cs_leases.specs.declared.lookup.Lookup.{Lookup}
use Rattle.cs_leases.specs.Leases.{EntryLease, lease_on, lookup_answer}

abbrev pub two_leases : List EntryLease
two_leases = record { dir = 1; name = codes "x"; ino = 10000; until = 60 } ∷ record { dir = 2; name = codes "x"; ino = 7; until = 90 } ∷ []

abbrev pub said : ℕ → List ℕ → ℕ → Lookup
said dir name now = lookup_answer (lease_on two_leases dir name) now
