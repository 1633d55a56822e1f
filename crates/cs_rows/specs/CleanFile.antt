-- A file whose metadata was flushed needs no cap snap.
use Rattle.std.specs.Prelude.{ℕ, false, List, [], ◌∷◌, codes, ◌++◌}
use Rattle.cs_laws.specs.declared.events.Event.{Event}
use Rattle.cs_laws.specs.declared.events.Event.TheVariants as events
use Rattle.cs_laws.specs.declared.events.RefName.TheVariants as names
use Rattle.cs_laws.specs.declared.objects.At.TheVariants as at
use Rattle.cs_laws.specs.Flushes.{Flush}

abbrev pub input : List ℕ
input =
    codes "ceph-script 1\n"
    ++ codes "file 100 1\n"
    ++ codes "grant 100 Frw 4096\n"
    ++ codes "toclient\n"
    ++ codes "begin 1 100 Fw 3\n"
    ++ codes "write 1 1 0 616263\n"
    ++ codes "end 1 1\n"
    ++ codes "flush 100\n"
    ++ codes "tomds\n"
    ++ codes "commit\n"
    ++ codes "toclient\n"
    ++ codes "snap 1 a\n"
    ++ codes "commit\n"
    ++ codes "toclient\n"
    ++ codes "flushsnaps 100\n"
    ++ codes "show 100 1 0 9\n"

abbrev pub events_read : List Event
events_read =
    events.File 100 1
    ∷ events.Grant 100 (record { 0 = 6144 }) 4096
    ∷ events.ToClient
    ∷ events.Begin 1 100 (record { 0 = 4096 }) 3
    ∷ events.Write 1 (names.Own 1) 0 (97 ∷ 98 ∷ 99 ∷ [])
    ∷ events.End 1 (names.Own 1)
    ∷ events.Flush 100
    ∷ events.ToMds
    ∷ events.Commit
    ∷ events.ToClient
    ∷ events.Snap 1 (97 ∷ [])
    ∷ events.Commit
    ∷ events.ToClient
    ∷ events.FlushSnaps 100
    ∷ events.Show 100 (at.Snap 1) 0 9
    ∷ []

abbrev pub written : List ℕ
written =
    codes "ceph-journal 1\n"
    ++ codes "1 file 100 1 -> made\n"
    ++ codes "2 grant 100 Frw 4096 -> sent 1 held Frw\n"
    ++ codes "3 toclient -> cap 100 1 Frw 4096\n"
    ++ codes "4 begin 1 100 Fw 3 -> ref 1\n"
    ++ codes "5 write 1 1 0 616263 -> wrote\n"
    ++ codes "6 end 1 1 -> ended\n"
    ++ codes "7 flush 100 -> flush 1\n"
    ++ codes "8 tomds -> flushed 100 1\n"
    ++ codes "9 commit -> commit 1\n"
    ++ codes "10 toclient -> flushack 100 1\n"
    ++ codes "11 snap 1 a -> snap 1\n"
    ++ codes "12 commit -> commit 1\n"
    ++ codes "13 toclient -> snap 1 1 0\n"
    ++ codes "14 flushsnaps 100 -> none\n"
    ++ codes "15 show 100 1 0 9 -> size 3 mtime 0 mode 0644 bytes 616263\n"
    ++ codes "end 15\n"

-- one flush, of what the file was then
abbrev pub flushed : List Flush
flushed =
    record { tid = 1; file = 100; follows = 0; meta = record { size = 3; mtime = 0; mode = 420 }; snap = false }
    ∷ []
