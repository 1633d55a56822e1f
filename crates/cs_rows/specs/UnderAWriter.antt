-- A snapshot while a writer lives: one cap snap, which is sized when the writer ends.
use Rattle.std.specs.Prelude.{ℕ, true, List, [], ◌∷◌, codes, ◌++◌}
use Rattle.cs_laws.specs.declared.events.Event.{Event}
use Rattle.cs_laws.specs.declared.events.Event.TheVariants as events
use Rattle.cs_laws.specs.declared.events.RefName.TheVariants as names
use Rattle.cs_laws.specs.declared.objects.At.TheVariants as at
use Rattle.cs_laws.specs.Flushes.{Flush}

abbrev pub input : List ℕ
input =
    codes "ceph-script 1\n"
    ++ codes "file 100 1\n"
    ++ codes "grant 100 Frw 4096\n"
    ++ codes "toclient\n"
    ++ codes "begin 1 100 Fw 4\n"
    ++ codes "write 1 1 0 6161\n"
    ++ codes "snap 1 a\n"
    ++ codes "commit\n"
    ++ codes "toclient\n"
    ++ codes "begin 2 100 Fw 4\n"
    ++ codes "write 1 1 2 6262\n"
    ++ codes "show 100 1 0 4\n"
    ++ codes "end 1 1\n"
    ++ codes "flushsnaps 100\n"
    ++ codes "tomds\n"
    ++ codes "commit\n"
    ++ codes "toclient\n"
    ++ codes "show 100 1 0 4\n"

abbrev pub events_read : List Event
events_read =
    events.File 100 1
    ∷ events.Grant 100 (record { 0 = 6144 }) 4096
    ∷ events.ToClient
    ∷ events.Begin 1 100 (record { 0 = 4096 }) 4
    ∷ events.Write 1 (names.Own 1) 0 (97 ∷ 97 ∷ [])
    ∷ events.Snap 1 (97 ∷ [])
    ∷ events.Commit
    ∷ events.ToClient
    ∷ events.Begin 2 100 (record { 0 = 4096 }) 4
    ∷ events.Write 1 (names.Own 1) 2 (98 ∷ 98 ∷ [])
    ∷ events.Show 100 (at.Snap 1) 0 4
    ∷ events.End 1 (names.Own 1)
    ∷ events.FlushSnaps 100
    ∷ events.ToMds
    ∷ events.Commit
    ∷ events.ToClient
    ∷ events.Show 100 (at.Snap 1) 0 4
    ∷ []

-- what is written before the end line
abbrev pub lines_written : List ℕ
lines_written =
    codes "ceph-journal 1\n"
    ++ codes "1 file 100 1 -> made\n"
    ++ codes "2 grant 100 Frw 4096 -> sent 1 held Frw\n"
    ++ codes "3 toclient -> cap 100 1 Frw 4096\n"
    ++ codes "4 begin 1 100 Fw 4 -> ref 1\n"
    ++ codes "5 write 1 1 0 6161 -> wrote\n"
    ++ codes "6 snap 1 a -> snap 1\n"
    ++ codes "7 commit -> commit 1\n"
    ++ codes "8 toclient -> snap 1 1 1\n"
    ++ codes "9 begin 2 100 Fw 4 -> again snap\n"
    ++ codes "10 write 1 1 2 6262 -> wrote\n"
    ++ codes "11 show 100 1 0 4 -> pending\n"
    ++ codes "12 end 1 1 -> ended\n"
    ++ codes "13 flushsnaps 100 -> flushsnap 1 0\n"
    ++ codes "14 tomds -> flushed 100 1\n"
    ++ codes "15 commit -> commit 1\n"
    ++ codes "16 toclient -> flushack 100 1\n"
    ++ codes "17 show 100 1 0 4 -> size 4 mtime 0 mode 0644 bytes 61616262\n"

abbrev pub written : List ℕ
written = lines_written ++ codes "end 17\n"

-- one flush, with the size of what was written before the writer ended
abbrev pub flushed : List Flush
flushed =
    record { tid = 1; file = 100; follows = 0; meta = record { size = 4; mtime = 0; mode = 420 }; snap = true }
    ∷ []
