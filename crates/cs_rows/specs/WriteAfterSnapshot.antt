-- A write after a snapshot of an empty file: the snapshot is empty, and the store has no clone.
use Rattle.std.specs.Prelude.{ℕ, List, [], ◌∷◌, codes, ◌++◌}
use Rattle.cs_laws.specs.declared.events.Event.{Event}
use Rattle.cs_laws.specs.declared.events.Event.TheVariants as events
use Rattle.cs_laws.specs.declared.events.RefName.TheVariants as names
use Rattle.cs_laws.specs.declared.objects.ObjOp.{ObjOp}
use Rattle.cs_laws.specs.declared.objects.At.TheVariants as at

abbrev pub input : List ℕ
input =
    codes "ceph-script 1\n"
    ++ codes "file 100 1\n"
    ++ codes "grant 100 Frw 4096\n"
    ++ codes "toclient\n"
    ++ codes "snap 1 a\n"
    ++ codes "commit\n"
    ++ codes "toclient\n"
    ++ codes "begin 1 100 Fw 4\n"
    ++ codes "write 1 1 0 61\n"
    ++ codes "end 1 1\n"
    ++ codes "show 100 1 0 4\n"

abbrev pub events_read : List Event
events_read =
    events.File 100 1
    ∷ events.Grant 100 (record { 0 = 6144 }) 4096
    ∷ events.ToClient
    ∷ events.Snap 1 (97 ∷ [])
    ∷ events.Commit
    ∷ events.ToClient
    ∷ events.Begin 1 100 (record { 0 = 4096 }) 4
    ∷ events.Write 1 (names.Own 1) 0 (97 ∷ [])
    ∷ events.End 1 (names.Own 1)
    ∷ events.Show 100 (at.Snap 1) 0 4
    ∷ []

abbrev pub written : List ℕ
written =
    codes "ceph-journal 1\n"
    ++ codes "1 file 100 1 -> made\n"
    ++ codes "2 grant 100 Frw 4096 -> sent 1 held Frw\n"
    ++ codes "3 toclient -> cap 100 1 Frw 4096\n"
    ++ codes "4 snap 1 a -> snap 1\n"
    ++ codes "5 commit -> commit 1\n"
    ++ codes "6 toclient -> snap 1 1 0\n"
    ++ codes "7 begin 1 100 Fw 4 -> ref 1\n"
    ++ codes "8 write 1 1 0 61 -> wrote\n"
    ++ codes "9 end 1 1 -> ended\n"
    ++ codes "10 show 100 1 0 4 -> size 0 mtime 0 mode 0644 bytes -\n"
    ++ codes "end 10\n"

-- the one operation, whose context has the snapshot
abbrev pub stored : List ObjOp
stored =
    record { tid = 1; obj = record { ino = 100; index = 0 }; off = 0; bytes = 97 ∷ []; ctx = record { seq = 1; snaps = 1 ∷ [] } }
    ∷ []
