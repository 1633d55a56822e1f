-- A realm below the root.
use Rattle.std.specs.Prelude.{ℕ, List, [], ◌∷◌, Some, None}
use Rattle.cs_snapctx.specs.declared.realm.RealmRecord.{RealmRecord}

-- the root with snapshot 2
abbrev pub root_with_two : RealmRecord
root_with_two = record { realm = 1; parent = None; since = 1; own_seq = 2; own = 2 ∷ []; prior = [] }

-- directory 2 below it, with these snapshots of its own, covered from `since` on
abbrev pub child : ℕ → ℕ → List ℕ → RealmRecord
child since own_seq own = record { realm = 2; parent = Some 1; since = since; own_seq = own_seq; own = own; prior = [] }

-- directory 3 below directory 2
abbrev pub grandchild : RealmRecord
grandchild = record { realm = 3; parent = Some 2; since = 1; own_seq = 0; own = []; prior = [] }
