-- Which realm records a snapshot or a removal changes.
use Rattle.std.specs.Prelude.{ℕ, ◌==◌, ◌&&◌, ◌||◌, not, List, [], ◌∷◌, ◌++◌, Option, None, drop, find, if◌then◌else◌}
use Rattle.cs_snapctx.specs.declared.realm.RealmRecord.{RealmRecord}
use Rattle.cs_laws.specs.declared.records.Record.{Record}
use Rattle.cs_laws.specs.declared.records.RecordBody.TheVariants as bodies
use Rattle.cs_laws.specs.Realms.{is_realm, realm_record}
use Rattle.cs_records.specs.OwnTable.{is_at}

-- the record of e after a snapshot of d, where e is d, or d is a realm only now and the nearest one above e
abbrev pub snapped_record : (ℕ → List ℕ) → List Record → ℕ → ℕ → List ℕ → ℕ → Option RealmRecord
snapped_record path before number d name e =
    let after = before ++ record { body = bodies.Snap number d name } ∷ [] in
    if (e == d) || (not (is_realm before d) && is_at d (find (is_realm after) (drop 1 (path e)))) then realm_record (path e) after e else None

-- the record of e after a removal of a snapshot of d, where e is d
abbrev pub removed_record : (ℕ → List ℕ) → List Record → ℕ → ℕ → ℕ → ℕ → Option RealmRecord
removed_record path before s number d e = if e == d then realm_record (path e) (before ++ record { body = bodies.Removal s number } ∷ []) e else None
