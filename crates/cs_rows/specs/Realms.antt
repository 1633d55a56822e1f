-- Two realms, and the removal of a snapshot of one of them.
use Rattle.std.specs.Prelude.{ℕ, List, [], ◌∷◌, codes, ◌++◌}
use Rattle.cs_laws.specs.declared.events.Event.{Event}
use Rattle.cs_laws.specs.declared.events.Event.TheVariants as events
use Rattle.cs_laws.specs.declared.objects.At.TheVariants as at
use Rattle.cs_snapctx.specs.Context.{Context}

abbrev pub input : List ℕ
input =
    codes "ceph-script 1\n"
    ++ codes "dir 2 1\n"
    ++ codes "file 100 2\n"
    ++ codes "file 101 1\n"
    ++ codes "snap 2 a\n"
    ++ codes "snap 1 b\n"
    ++ codes "commit\n"
    ++ codes "toclient\n"
    ++ codes "toclient\n"
    ++ codes "show 101 1 0 4\n"
    ++ codes "show 100 1 0 4\n"
    ++ codes "rmsnap 1\n"
    ++ codes "show 100 1 0 4\n"
    ++ codes "commit\n"
    ++ codes "toclient\n"

abbrev pub events_read : List Event
events_read =
    events.Dir 2 1
    ∷ events.File 100 2
    ∷ events.File 101 1
    ∷ events.Snap 2 (97 ∷ [])
    ∷ events.Snap 1 (98 ∷ [])
    ∷ events.Commit
    ∷ events.ToClient
    ∷ events.ToClient
    ∷ events.Show 101 (at.Snap 1) 0 4
    ∷ events.Show 100 (at.Snap 1) 0 4
    ∷ events.RmSnap 1
    ∷ events.Show 100 (at.Snap 1) 0 4
    ∷ events.Commit
    ∷ events.ToClient
    ∷ []

abbrev pub written : List ℕ
written =
    codes "ceph-journal 1\n"
    ++ codes "1 dir 2 1 -> made\n"
    ++ codes "2 file 100 2 -> made\n"
    ++ codes "3 file 101 1 -> made\n"
    ++ codes "4 snap 2 a -> snap 1\n"
    ++ codes "5 snap 1 b -> snap 2\n"
    ++ codes "6 commit -> commit 2\n"
    ++ codes "7 toclient -> snap 1 2 0\n"
    ++ codes "8 toclient -> snap 2 1 0\n"
    ++ codes "9 show 101 1 0 4 -> nosnap\n"
    ++ codes "10 show 100 1 0 4 -> size 0 mtime 0 mode 0644 bytes -\n"
    ++ codes "11 rmsnap 1 -> removed 1 3\n"
    ++ codes "12 show 100 1 0 4 -> gone\n"
    ++ codes "13 commit -> commit 1\n"
    ++ codes "14 toclient -> snap 3 2 0\n"
    ++ codes "end 14\n"

-- the context of file 100 at the end: its realm's one snapshot is removed, the root's covers it
abbrev pub at_end : Context
at_end = record { seq = 3; snaps = 2 ∷ [] }
