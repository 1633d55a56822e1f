-- The present metadata is flushed before an older cap snap.
use Rattle.std.specs.Prelude.{ℕ, true, false, List, [], ◌∷◌, codes, ◌++◌}
use Rattle.cs_laws.specs.declared.events.Event.{Event}
use Rattle.cs_laws.specs.declared.events.Event.TheVariants as events
use Rattle.cs_laws.specs.declared.events.RefName.TheVariants as names
use Rattle.cs_laws.specs.declared.objects.At.TheVariants as at
use Rattle.cs_laws.specs.Flushes.{Flush}

abbrev pub input : List ℕ
input =
    codes "ceph-script 1\n"
    ++ codes "file 100 1\n"
    ++ codes "grant 100 Frw 4096\n"
    ++ codes "toclient\n"
    ++ codes "begin 1 100 Fw 4\n"
    ++ codes "write 1 1 0 61\n"
    ++ codes "end 1 1\n"
    ++ codes "snap 1 a\n"
    ++ codes "commit\n"
    ++ codes "toclient\n"
    ++ codes "begin 1 100 Fw 4\n"
    ++ codes "write 1 2 1 62\n"
    ++ codes "end 1 2\n"
    ++ codes "flush 100\n"
    ++ codes "flushsnaps 100\n"
    ++ codes "snap 1 b\n"
    ++ codes "tomds\n"
    ++ codes "tomds\n"
    ++ codes "commit\n"
    ++ codes "toclient\n"
    ++ codes "toclient\n"
    ++ codes "toclient\n"
    ++ codes "show 100 2 0 4\n"
    ++ codes "show 100 1 0 4\n"

abbrev pub events_read : List Event
events_read =
    events.File 100 1
    ∷ events.Grant 100 (record { 0 = 6144 }) 4096
    ∷ events.ToClient
    ∷ events.Begin 1 100 (record { 0 = 4096 }) 4
    ∷ events.Write 1 (names.Own 1) 0 (97 ∷ [])
    ∷ events.End 1 (names.Own 1)
    ∷ events.Snap 1 (97 ∷ [])
    ∷ events.Commit
    ∷ events.ToClient
    ∷ events.Begin 1 100 (record { 0 = 4096 }) 4
    ∷ events.Write 1 (names.Own 2) 1 (98 ∷ [])
    ∷ events.End 1 (names.Own 2)
    ∷ events.Flush 100
    ∷ events.FlushSnaps 100
    ∷ events.Snap 1 (98 ∷ [])
    ∷ events.ToMds
    ∷ events.ToMds
    ∷ events.Commit
    ∷ events.ToClient
    ∷ events.ToClient
    ∷ events.ToClient
    ∷ events.Show 100 (at.Snap 2) 0 4
    ∷ events.Show 100 (at.Snap 1) 0 4
    ∷ []

abbrev pub written : List ℕ
written =
    codes "ceph-journal 1\n"
    ++ codes "1 file 100 1 -> made\n"
    ++ codes "2 grant 100 Frw 4096 -> sent 1 held Frw\n"
    ++ codes "3 toclient -> cap 100 1 Frw 4096\n"
    ++ codes "4 begin 1 100 Fw 4 -> ref 1\n"
    ++ codes "5 write 1 1 0 61 -> wrote\n"
    ++ codes "6 end 1 1 -> ended\n"
    ++ codes "7 snap 1 a -> snap 1\n"
    ++ codes "8 commit -> commit 1\n"
    ++ codes "9 toclient -> snap 1 1 1\n"
    ++ codes "10 begin 1 100 Fw 4 -> ref 2\n"
    ++ codes "11 write 1 2 1 62 -> wrote\n"
    ++ codes "12 end 1 2 -> ended\n"
    ++ codes "13 flush 100 -> flush 1\n"
    ++ codes "14 flushsnaps 100 -> flushsnap 2 0\n"
    ++ codes "15 snap 1 b -> snap 2\n"
    ++ codes "16 tomds -> flushed 100 1\n"
    ++ codes "17 tomds -> flushed 100 2\n"
    ++ codes "18 commit -> commit 3\n"
    ++ codes "19 toclient -> snap 2 1 0\n"
    ++ codes "20 toclient -> flushack 100 1\n"
    ++ codes "21 toclient -> flushack 100 2\n"
    ++ codes "22 show 100 2 0 4 -> size 2 mtime 0 mode 0644 bytes 6162\n"
    ++ codes "23 show 100 1 0 4 -> size 1 mtime 0 mode 0644 bytes 61\n"
    ++ codes "end 23\n"

-- the file's present metadata, and then the cap snap's
abbrev pub flushed : List Flush
flushed =
    record { tid = 1; file = 100; follows = 1; meta = record { size = 2; mtime = 0; mode = 420 }; snap = false }
    ∷ record { tid = 2; file = 100; follows = 0; meta = record { size = 1; mtime = 0; mode = 420 }; snap = true }
    ∷ []
