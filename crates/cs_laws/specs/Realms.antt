-- The realms, by the records of the server's log, the oldest first.
use Rattle.std.specs.Prelude.{ℕ, ◌+◌, ◌==◌, ◌||◌, not, Bool, false, List, [], ◌∷◌, Option, Some, None, drop, filter, find, max, if◌then◌else◌}
use Rattle.std.specs.List.{list_any, filter_map}
use Rattle.cs_snapctx.specs.declared.realm.RealmRecord.{RealmRecord}
use Rattle.cs_snapctx.specs.Records.{changed_record, record_of}
use Rattle.cs_laws.specs.declared.records.Record.{Record}
use Rattle.cs_laws.specs.declared.records.RecordBody.{RecordBody}
use Rattle.cs_laws.specs.declared.records.RecordBody.TheVariants as bodies
use Rattle.cs_laws.specs.Made.{made_of, makes_dir}

-- the number that a snapshot or a removal drew
abbrev pub number_of : RecordBody → ℕ
number_of (bodies.Request tid op answer) = 0
number_of (bodies.Flush snap f tid follows meta) = 0
number_of (bodies.Snap number d name) = number
number_of (bodies.Removal s number) = number

-- What the records say of one directory

abbrev pub is_snap_of : ℕ → RecordBody → Bool
is_snap_of d (bodies.Snap number e name) = e == d
is_snap_of d _ = false

-- a directory is a realm from its first snapshot on, and the root from the start
abbrev pub is_realm : List Record → ℕ → Bool
is_realm rs d = (d == 1) || list_any (λ r. is_snap_of d r.body) rs

-- a realm's own snapshots, the newest first, and the number of its last snapshot or removal
pub record Own : Type 0 where
  pub seq : ℕ
  pub snaps : List ℕ

abbrev pub has_snap : ℕ → Own → Bool
has_snap s o = list_any (λ t. t == s) o.snaps

abbrev pub own_then : ℕ → Own → RecordBody → Own
own_then d o (bodies.Request tid op answer) = o
own_then d o (bodies.Flush snap f tid follows meta) = o
own_then d o (bodies.Snap number e name) = if e == d then record { seq = number; snaps = number ∷ o.snaps } else o
own_then d o (bodies.Removal s number) =
    if has_snap s o then record { seq = number; snaps = filter (λ t. not (t == s)) o.snaps } else o

-- after these records
abbrev pub own_after : ℕ → Own → List Record → Own
own_after d o [] = o
own_after d o (r ∷ rs) = own_after d (own_then d o r.body) rs

abbrev pub own : ℕ → List Record → Own
own d rs = own_after d (record { seq = 0; snaps = [] }) rs

-- Realm records

-- n: the greatest number before these records
abbrev pub since_from : ℕ → ℕ → List Record → ℕ
since_from d n [] = 1
since_from d n (r ∷ rs) = if makes_dir d (made_of r.body) then n + 1 else since_from d (max n (number_of r.body)) rs

-- A snapshot of a realm above covers a directory where its number is at least this one: one more than the greatest number that
-- stood when the directory was made. A directory of a setup line was made before them all.
abbrev pub since_of : List Record → ℕ → ℕ
since_of rs d = since_from d 0 rs

-- the realm of a directory, whose way up is the path
abbrev pub realm_record : List ℕ → List Record → ℕ → Option RealmRecord
realm_record up rs d =
    if is_realm rs d
    then Some (record { realm = d; parent = find (is_realm rs) (drop 1 up); since = since_of rs d; own_seq = (own d rs).seq; own = (own d rs).snaps; prior = [] })
    else None

-- path: the path of each directory; ds: the directories, parents first
abbrev pub realm_records : (ℕ → List ℕ) → List ℕ → List Record → List RealmRecord
realm_records path ds rs = filter_map (λ d. realm_record (path d) rs d) ds

-- of the present records of the realms those that differ from the ones that were sent last, or weren't sent
abbrev pub differing : List RealmRecord → List RealmRecord → List RealmRecord
differing sent now = filter_map (λ r. changed_record (record_of r.realm sent) (Some r)) now
