-- A write on a reference that began after a snapshot was told.
use Rattle.std.specs.Prelude.{List, [], ◌∷◌}
use Rattle.cs_laws.specs.declared.events.Event.{Event}
use Rattle.cs_laws.specs.declared.events.Event.TheVariants as events
use Rattle.cs_laws.specs.declared.events.RefName.TheVariants as names
use Rattle.cs_laws.specs.declared.objects.ObjOp.{ObjOp}

abbrev pub events_read : List Event
events_read =
    events.File 100 1
    ∷ events.Grant 100 (record { 0 = 4096 }) 4096
    ∷ events.ToClient
    ∷ events.Snap 1 (97 ∷ [])
    ∷ events.Snap 1 (98 ∷ [])
    ∷ events.Commit
    ∷ events.ToClient
    ∷ events.ToClient
    ∷ events.Begin 1 100 (record { 0 = 4096 }) 1
    ∷ events.Write 1 (names.Own 1) 0 (97 ∷ [])
    ∷ []

-- the operation's context has both snapshots
abbrev pub stored : List ObjOp
stored =
    record { tid = 1; obj = record { ino = 100; index = 0 }; off = 0; bytes = 97 ∷ []; ctx = record { seq = 2; snaps = 2 ∷ 1 ∷ [] } }
    ∷ []
