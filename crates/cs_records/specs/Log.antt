-- What a record of the log may be, by the records before it.
use Rattle.std.specs.Prelude.{◌≡◌, ℕ, ◌+◌, ◌<◌, true, false, List, [], ◌∷◌, ◌++◌}
use Rattle.cs_laws.specs.declared.records.Record.{Record}
use Rattle.cs_laws.specs.declared.records.RecordBody.{RecordBody}
use Rattle.cs_laws.specs.declared.records.RecordBody.TheVariants as bodies
use Rattle.cs_laws.specs.Standing.{greatest_number, greatest_request, greatest_tid, has_snap, has_snap_named, is_removed}

-- it draws the next number, and no unremoved snapshot of the directory has the name
pub record IsNextSnap (before : List Record) (number d : ℕ) (name : List ℕ) : Type 0 where
  pub next : number ≡ greatest_number before + 1
  pub room : greatest_number before < 99998
  pub new : has_snap_named d name before ≡ false

-- it draws the next number, and the snapshot stands and isn't removed yet
pub record IsNextRemoval (before : List Record) (s number : ℕ) : Type 0 where
  pub next : number ≡ greatest_number before + 1
  pub room : greatest_number before < 99998
  pub stands : has_snap s before ≡ true
  pub unremoved : is_removed s before ≡ false

-- a request has a greater number than each one before it, and a flush than each one of its file
abbrev pub IsNext : List Record → RecordBody → Type 0
IsNext before (bodies.Request tid op answer) = greatest_request before < tid
IsNext before (bodies.Flush snap f tid follows meta) = greatest_tid f before < tid
IsNext before (bodies.Snap number d name) = IsNextSnap before number d name
IsNext before (bodies.Removal s number) = IsNextRemoval before s number

-- each of these records may follow those before it
abbrev pub IsLogAfter : List Record → List Record → Type 0
IsLogAfter before [] = Unit {0}
IsLogAfter before (r ∷ rs) = IsNext before r.body × IsLogAfter (before ++ r ∷ []) rs

abbrev pub IsLog : List Record → Type 0
IsLog rs = IsLogAfter [] rs
