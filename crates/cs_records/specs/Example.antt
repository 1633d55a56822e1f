-- Directory 2 in the root, and directory 3 in that.
use Rattle.std.specs.Prelude.{ℕ, Bool, List, [], ◌∷◌, Option, Some, None}
use Rattle.cs_snapctx.specs.declared.realm.RealmRecord.{RealmRecord}
use Rattle.cs_laws.specs.declared.messages.Message.{Message}
use Rattle.cs_laws.specs.declared.messages.Message.TheVariants as messages
use Rattle.cs_laws.specs.declared.records.Record.{Record}
use Rattle.cs_laws.specs.declared.records.RecordBody.TheVariants as bodies
use Rattle.cs_laws.specs.Standing.{has_snap_named}
use Rattle.cs_tree.specs.declared.directories.Directory.{Directory}
use Rattle.cs_tree.specs.Directories.{inos, path_of}

abbrev pub tree : List Directory
tree = record { ino = 1; path = 1 ∷ [] } ∷ record { ino = 2; path = 2 ∷ 1 ∷ [] } ∷ record { ino = 3; path = 3 ∷ 2 ∷ 1 ∷ [] } ∷ []

abbrev pub directories : List ℕ
directories = inos tree

abbrev pub path : ℕ → List ℕ
path = path_of tree

-- snapshots of 3, 2 and the root, each named `a`, and the removal of the first

abbrev pub first : Record
first = record { body = bodies.Snap 1 3 (97 ∷ []) }

abbrev pub second : Record
second = record { body = bodies.Snap 2 2 (97 ∷ []) }

abbrev pub root : Record
root = record { body = bodies.Snap 3 1 (97 ∷ []) }

abbrev pub removal : Record
removal = record { body = bodies.Removal 1 4 }

abbrev pub realm : ℕ → Option ℕ → ℕ → List ℕ → RealmRecord
realm d parent seq own = record { realm = d; parent = parent; since = 1; own_seq = seq; own = own; prior = [] }

abbrev pub told_first : List Message
told_first = messages.Snap 1 3 (realm 3 (Some 1) 1 (1 ∷ []) ∷ []) ∷ []

abbrev pub told_second : List Message
told_second = messages.Snap 2 2 (realm 2 (Some 1) 2 (2 ∷ []) ∷ realm 3 (Some 2) 1 (1 ∷ []) ∷ []) ∷ []

abbrev pub told_root : List Message
told_root = messages.Snap 3 1 (realm 1 None 3 (3 ∷ []) ∷ []) ∷ []

abbrev pub told_removal : List Message
told_removal = messages.Snap 4 3 (realm 3 (Some 2) 4 [] ∷ []) ∷ []

-- whether the name is taken in 2 and in 3 after the removal
abbrev pub names_after_removal : List Bool
names_after_removal =
    has_snap_named 2 (97 ∷ []) (first ∷ second ∷ root ∷ removal ∷ []) ∷ has_snap_named 3 (97 ∷ []) (first ∷ second ∷ root ∷ removal ∷ []) ∷ []
