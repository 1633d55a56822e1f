-- The last records of the realms.
use Rattle.std.specs.Prelude.{◌≡◌, ℕ, ◌==◌, ◌&&◌, Bool, true, false, nat_eq, List, [], ◌∷◌, Option, Some, None, is_some, find, if◌then◌else◌}
use Rattle.std.specs.Cmp.Lexicographic.{pointwise}
use Rattle.std.specs.Option.{option_and_then}
use Rattle.cs_snapctx.specs.declared.realm.RealmRecord.{RealmRecord}

-- the record of the root before any snapshot
abbrev pub root_record : RealmRecord
root_record = record { realm = 1; parent = None; since = 1; own_seq = 0; own = []; prior = [] }

abbrev pub is_of : ℕ → RealmRecord → Bool
is_of i r = r.realm == i

abbrev pub record_of : ℕ → List RealmRecord → Option RealmRecord
record_of i rs = find (is_of i) rs

abbrev pub is_known : ℕ → List RealmRecord → Bool
is_known i rs = is_some (record_of i rs)

-- the record of the parent that r names
abbrev pub parent_record : List RealmRecord → RealmRecord → Option RealmRecord
parent_record rs r = option_and_then (λ p. record_of p rs) r.parent

-- the parent that r names, where it is unknown
abbrev pub missing_parent : List RealmRecord → RealmRecord → Option ℕ
missing_parent rs r = option_and_then (λ p. if is_known p rs then None else Some p) r.parent

-- r as the last record of its realm
abbrev pub with_record : RealmRecord → List RealmRecord → List RealmRecord
with_record r [] = r ∷ []
with_record r (x ∷ xs) = if is_of r.realm x then r ∷ xs else x ∷ with_record r xs

-- no realm has two records
abbrev pub AreDistinct : List RealmRecord → Type 0
AreDistinct [] = Unit {0}
AreDistinct (x ∷ xs) = (is_known x.realm xs ≡ false) × AreDistinct xs

-- these records in turn, each as the last one of its realm
abbrev pub with_records : List RealmRecord → List RealmRecord → List RealmRecord
with_records [] rs = rs
with_records (t ∷ ts) rs = with_records ts (with_record t rs)

abbrev pub is_same_parent : Option ℕ → Option ℕ → Bool
is_same_parent None None = true
is_same_parent (Some p) (Some q) = p == q
is_same_parent _ _ = false

abbrev pub is_same_record : RealmRecord → RealmRecord → Bool
is_same_record a b =
    (a.realm == b.realm) && (is_same_parent a.parent b.parent && ((a.since == b.since) && ((a.own_seq == b.own_seq)
    && (pointwise nat_eq a.own b.own && pointwise nat_eq a.prior b.prior))))

abbrev pub is_as_before : Option RealmRecord → RealmRecord → Bool
is_as_before None r = false
is_as_before (Some b) r = is_same_record b r

-- a realm's record, where it differs from that before
abbrev pub changed_record : Option RealmRecord → Option RealmRecord → Option RealmRecord
changed_record b None = None
changed_record b (Some r) = if is_as_before b r then None else Some r
