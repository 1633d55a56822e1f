-- Two snapshots while a writer lives, and one cap snap for both.
use Rattle.std.specs.Prelude.{ℕ, true, List, [], ◌∷◌, codes, ◌++◌}
use Rattle.cs_laws.specs.declared.events.Event.{Event}
use Rattle.cs_laws.specs.declared.events.Event.TheVariants as events
use Rattle.cs_laws.specs.declared.events.RefName.TheVariants as names
use Rattle.cs_laws.specs.declared.objects.At.TheVariants as at
use Rattle.cs_laws.specs.Flushes.{Flush}

abbrev pub input : List ℕ
input =
    codes "ceph-script 1\n"
    ++ codes "file 100 1\n"
    ++ codes "grant 100 Frw 4096\n"
    ++ codes "toclient\n"
    ++ codes "begin 1 100 Fw 2\n"
    ++ codes "snap 1 a\n"
    ++ codes "snap 1 b\n"
    ++ codes "commit\n"
    ++ codes "toclient\n"
    ++ codes "toclient\n"
    ++ codes "write 1 1 0 7878\n"
    ++ codes "end 1 1\n"
    ++ codes "flushsnaps 100\n"
    ++ codes "flushsnaps 100\n"
    ++ codes "tomds\n"
    ++ codes "commit\n"
    ++ codes "toclient\n"
    ++ codes "show 100 1 0 2\n"
    ++ codes "show 100 2 0 2\n"

abbrev pub events_read : List Event
events_read =
    events.File 100 1
    ∷ events.Grant 100 (record { 0 = 6144 }) 4096
    ∷ events.ToClient
    ∷ events.Begin 1 100 (record { 0 = 4096 }) 2
    ∷ events.Snap 1 (97 ∷ [])
    ∷ events.Snap 1 (98 ∷ [])
    ∷ events.Commit
    ∷ events.ToClient
    ∷ events.ToClient
    ∷ events.Write 1 (names.Own 1) 0 (120 ∷ 120 ∷ [])
    ∷ events.End 1 (names.Own 1)
    ∷ events.FlushSnaps 100
    ∷ events.FlushSnaps 100
    ∷ events.ToMds
    ∷ events.Commit
    ∷ events.ToClient
    ∷ events.Show 100 (at.Snap 1) 0 2
    ∷ events.Show 100 (at.Snap 2) 0 2
    ∷ []

abbrev pub written : List ℕ
written =
    codes "ceph-journal 1\n"
    ++ codes "1 file 100 1 -> made\n"
    ++ codes "2 grant 100 Frw 4096 -> sent 1 held Frw\n"
    ++ codes "3 toclient -> cap 100 1 Frw 4096\n"
    ++ codes "4 begin 1 100 Fw 2 -> ref 1\n"
    ++ codes "5 snap 1 a -> snap 1\n"
    ++ codes "6 snap 1 b -> snap 2\n"
    ++ codes "7 commit -> commit 2\n"
    ++ codes "8 toclient -> snap 1 1 1\n"
    ++ codes "9 toclient -> snap 2 1 0\n"
    ++ codes "10 write 1 1 0 7878 -> wrote\n"
    ++ codes "11 end 1 1 -> ended\n"
    ++ codes "12 flushsnaps 100 -> flushsnap 1 0\n"
    ++ codes "13 flushsnaps 100 -> none\n"
    ++ codes "14 tomds -> flushed 100 1\n"
    ++ codes "15 commit -> commit 1\n"
    ++ codes "16 toclient -> flushack 100 1\n"
    ++ codes "17 show 100 1 0 2 -> size 2 mtime 0 mode 0644 bytes 7878\n"
    ++ codes "18 show 100 2 0 2 -> size 2 mtime 0 mode 0644 bytes 7878\n"
    ++ codes "end 18\n"

-- one flush, with the size of what was written before the writer ended
abbrev pub flushed : List Flush
flushed =
    record { tid = 1; file = 100; follows = 0; meta = record { size = 2; mtime = 0; mode = 420 }; snap = true }
    ∷ []
