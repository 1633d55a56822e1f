-- A write that touches two objects.
use Rattle.std.specs.Prelude.{List, [], ◌∷◌}
use Rattle.cs_snapctx.specs.Context.{empty_context}
use Rattle.cs_laws.specs.declared.events.Event.{Event}
use Rattle.cs_laws.specs.declared.events.Event.TheVariants as events
use Rattle.cs_laws.specs.declared.events.RefName.TheVariants as names
use Rattle.cs_laws.specs.declared.objects.ObjOp.{ObjOp}

abbrev pub events_read : List Event
events_read =
    events.File 100 1
    ∷ events.Grant 100 (record { 0 = 4096 }) 1048576
    ∷ events.ToClient
    ∷ events.Begin 1 100 (record { 0 = 4096 }) 1048576
    ∷ events.Write 1 (names.Own 1) 65535 (97 ∷ 98 ∷ [])
    ∷ []

-- the newest first
abbrev pub stored : List ObjOp
stored =
    record { tid = 2; obj = record { ino = 100; index = 1 }; off = 0; bytes = 98 ∷ []; ctx = empty_context }
    ∷ record { tid = 1; obj = record { ino = 100; index = 0 }; off = 65535; bytes = 97 ∷ []; ctx = empty_context }
    ∷ []
