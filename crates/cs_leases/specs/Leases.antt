-- The leases, as contracts see them.
use Rattle.std.specs.Prelude.{ℕ, ◌==◌, ◌&&◌, nat_le, Bool, List, [], ◌∷◌, Option, Some, None, if◌then◌else◌}
use Rattle.std.specs.Str.{bytes_eq}
use Rattle.cs_leases.specs.declared.lookup.Lookup.{Lookup}
use Rattle.cs_leases.specs.declared.lookup.Lookup.TheVariants.{Absent, Expired, Hit}

-- a lease on the entry of a directory that has the name: it has this inode until this time
pub record EntryLease : Type 0 where
  pub dir : ℕ
  pub name : List ℕ
  pub ino : ℕ
  pub until : ℕ

-- the entry of dir that has the name is that of d that has the name n
abbrev pub is_entry : ℕ → List ℕ → ℕ → List ℕ → Bool
is_entry dir name d n = (dir == d) && bytes_eq name n

-- the inode and the time of the lease on an entry
abbrev pub lease_on : List EntryLease → ℕ → List ℕ → Option (ℕ × ℕ)
lease_on [] dir name = None
lease_on (l ∷ ls) dir name = if is_entry dir name l.dir l.name then Some (l.ino, l.until) else lease_on ls dir name

-- what a look-up says of a lease, by its inode and its time: it has expired where now is at least its time
abbrev pub lookup_answer : Option (ℕ × ℕ) → ℕ → Lookup
lookup_answer None now = Absent
lookup_answer (Some (ino, until)) now = if nat_le until now then Expired until else Hit ino
