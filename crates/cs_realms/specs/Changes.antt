-- What a record changed.
use Rattle.std.specs.Prelude.{ℕ, ◌==◌, ◌&&◌, Bool, false, nat_eq, List, Option, Some, None, if◌then◌else◌}
use Rattle.std.specs.List.{filter_map}
use Rattle.std.specs.Cmp.Lexicographic.{pointwise}
use Rattle.cs_snapctx.specs.declared.realm.RealmRecord.{RealmRecord}
use Rattle.cs_snapctx.specs.Context.{Context}
use Rattle.cs_realms.specs.declared.changed.Change.{Change}
use Rattle.cs_snapctx.specs.Contexts.{context}

-- there was a context, and it is the same now
abbrev pub is_same : Option Context → Context → Bool
is_same None c = false
is_same (Some b) c = nat_eq b.seq c.seq && pointwise nat_eq b.snaps c.snaps

-- the change of the context of realm i, where it differs
abbrev pub change : ℕ → Option Context → Option Context → Option Change
change i b None = None
change i b (Some c) = if is_same b c then None else Some (record { realm = i; old = b; new = c })

-- the changes from the records `before` to the records `after` of the realms that rs tells of
abbrev pub changes_among : List RealmRecord → List RealmRecord → List RealmRecord → List Change
changes_among before after rs = filter_map (λ r. change r.realm (context before r.realm) (context after r.realm)) rs

-- of all realms, in the order of their records
abbrev pub changes : List RealmRecord → List RealmRecord → List Change
changes before after = changes_among before after after

abbrev pub is_of_change : ℕ → Change → Bool
is_of_change i c = c.realm == i
