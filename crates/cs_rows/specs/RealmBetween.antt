-- A realm appears between another one and the root.
use Rattle.std.specs.Prelude.{ℕ, List, [], ◌∷◌, codes, ◌++◌}
use Rattle.cs_laws.specs.declared.events.Event.{Event}
use Rattle.cs_laws.specs.declared.events.Event.TheVariants as events
use Rattle.cs_laws.specs.declared.events.RefName.TheVariants as names
use Rattle.cs_laws.specs.declared.objects.At.TheVariants as at
use Rattle.cs_snapctx.specs.Context.{Context}

abbrev pub input : List ℕ
input =
    codes "ceph-script 1\n"
    ++ codes "dir 2 1\n"
    ++ codes "dir 3 2\n"
    ++ codes "file 100 3\n"
    ++ codes "file 101 2\n"
    ++ codes "grant 100 Fw 4096\n"
    ++ codes "grant 101 Fw 4096\n"
    ++ codes "toclient\n"
    ++ codes "toclient\n"
    ++ codes "snap 3 a\n"
    ++ codes "commit\n"
    ++ codes "toclient\n"
    ++ codes "begin 1 100 Fw 4\n"
    ++ codes "begin 2 101 Fw 4\n"
    ++ codes "write 1 1 0 61\n"
    ++ codes "snap 2 b\n"
    ++ codes "commit\n"
    ++ codes "toclient\n"
    ++ codes "write 1 1 1 62\n"
    ++ codes "end 1 1\n"
    ++ codes "end 2 1\n"
    ++ codes "flushsnaps 100\n"
    ++ codes "flushsnaps 101\n"
    ++ codes "show 100 1 0 4\n"
    ++ codes "show 100 2 0 4\n"
    ++ codes "show 101 1 0 4\n"
    ++ codes "tomds\n"
    ++ codes "tomds\n"
    ++ codes "commit\n"
    ++ codes "toclient\n"
    ++ codes "toclient\n"
    ++ codes "show 100 2 0 4\n"
    ++ codes "show 101 2 0 4\n"
    ++ codes "rmsnap 2\n"
    ++ codes "show 100 2 0 4\n"
    ++ codes "commit\n"
    ++ codes "toclient\n"
    ++ codes "flushsnaps 100\n"

abbrev pub events_read : List Event
events_read =
    events.Dir 2 1
    ∷ events.Dir 3 2
    ∷ events.File 100 3
    ∷ events.File 101 2
    ∷ events.Grant 100 (record { 0 = 4096 }) 4096
    ∷ events.Grant 101 (record { 0 = 4096 }) 4096
    ∷ events.ToClient
    ∷ events.ToClient
    ∷ events.Snap 3 (97 ∷ [])
    ∷ events.Commit
    ∷ events.ToClient
    ∷ events.Begin 1 100 (record { 0 = 4096 }) 4
    ∷ events.Begin 2 101 (record { 0 = 4096 }) 4
    ∷ events.Write 1 (names.Own 1) 0 (97 ∷ [])
    ∷ events.Snap 2 (98 ∷ [])
    ∷ events.Commit
    ∷ events.ToClient
    ∷ events.Write 1 (names.Own 1) 1 (98 ∷ [])
    ∷ events.End 1 (names.Own 1)
    ∷ events.End 2 (names.Own 1)
    ∷ events.FlushSnaps 100
    ∷ events.FlushSnaps 101
    ∷ events.Show 100 (at.Snap 1) 0 4
    ∷ events.Show 100 (at.Snap 2) 0 4
    ∷ events.Show 101 (at.Snap 1) 0 4
    ∷ events.ToMds
    ∷ events.ToMds
    ∷ events.Commit
    ∷ events.ToClient
    ∷ events.ToClient
    ∷ events.Show 100 (at.Snap 2) 0 4
    ∷ events.Show 101 (at.Snap 2) 0 4
    ∷ events.RmSnap 2
    ∷ events.Show 100 (at.Snap 2) 0 4
    ∷ events.Commit
    ∷ events.ToClient
    ∷ events.FlushSnaps 100
    ∷ []

abbrev pub written : List ℕ
written =
    codes "ceph-journal 1\n"
    ++ codes "1 dir 2 1 -> made\n"
    ++ codes "2 dir 3 2 -> made\n"
    ++ codes "3 file 100 3 -> made\n"
    ++ codes "4 file 101 2 -> made\n"
    ++ codes "5 grant 100 Fw 4096 -> sent 1 held Fw\n"
    ++ codes "6 grant 101 Fw 4096 -> sent 1 held Fw\n"
    ++ codes "7 toclient -> cap 100 1 Fw 4096\n"
    ++ codes "8 toclient -> cap 101 1 Fw 4096\n"
    ++ codes "9 snap 3 a -> snap 1\n"
    ++ codes "10 commit -> commit 1\n"
    ++ codes "11 toclient -> snap 1 3 0\n"
    ++ codes "12 begin 1 100 Fw 4 -> ref 1\n"
    ++ codes "13 begin 2 101 Fw 4 -> ref 1\n"
    ++ codes "14 write 1 1 0 61 -> wrote\n"
    ++ codes "15 snap 2 b -> snap 2\n"
    ++ codes "16 commit -> commit 1\n"
    ++ codes "17 toclient -> snap 2 2 2\n"
    ++ codes "18 write 1 1 1 62 -> wrote\n"
    ++ codes "19 end 1 1 -> ended\n"
    ++ codes "20 end 2 1 -> ended\n"
    ++ codes "21 flushsnaps 100 -> flushsnap 1 1\n"
    ++ codes "22 flushsnaps 101 -> flushsnap 2 0\n"
    ++ codes "23 show 100 1 0 4 -> size 0 mtime 0 mode 0644 bytes -\n"
    ++ codes "24 show 100 2 0 4 -> pending\n"
    ++ codes "25 show 101 1 0 4 -> nosnap\n"
    ++ codes "26 tomds -> flushed 100 1\n"
    ++ codes "27 tomds -> flushed 101 2\n"
    ++ codes "28 commit -> commit 2\n"
    ++ codes "29 toclient -> flushack 100 1\n"
    ++ codes "30 toclient -> flushack 101 2\n"
    ++ codes "31 show 100 2 0 4 -> size 2 mtime 0 mode 0644 bytes 6162\n"
    ++ codes "32 show 101 2 0 4 -> size 0 mtime 0 mode 0644 bytes -\n"
    ++ codes "33 rmsnap 2 -> removed 2 3\n"
    ++ codes "34 show 100 2 0 4 -> gone\n"
    ++ codes "35 commit -> commit 1\n"
    ++ codes "36 toclient -> snap 3 2 1\n"
    ++ codes "37 flushsnaps 100 -> flushsnap 3 2\n"
    ++ codes "end 37\n"

-- the context of file 100 at the end: the snapshot of the realm between is removed, that of its own stays
abbrev pub at_end : Context
at_end = record { seq = 3; snaps = 1 ∷ [] }
