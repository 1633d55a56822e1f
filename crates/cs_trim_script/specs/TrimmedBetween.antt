-- A snapshot is removed, and a trim gives up the clone that served it alone.
use Rattle.std.specs.Prelude.{ℕ, List, [], ◌∷◌, codes, ◌++◌}
use Rattle.cs_laws.specs.declared.objects.At.TheVariants as at
use Rattle.cs_trim_script.specs.declared.events.Event.{Event}
use Rattle.cs_trim_script.specs.declared.events.Event.TheVariants as events

abbrev pub input : List ℕ
input =
    codes "ceph-trim 1\n"
    ++ codes "write 0 0 6161\n"
    ++ codes "snap\n"
    ++ codes "snap\n"
    ++ codes "write 0 0 62\n"
    ++ codes "snap\n"
    ++ codes "write 0 1 63\n"
    ++ codes "clones 0\n"
    ++ codes "rmsnap 3\n"
    ++ codes "trim\n"
    ++ codes "clones 0\n"
    ++ codes "read 0 2 0 2\n"
    ++ codes "read 0 3 0 2\n"
    ++ codes "rmsnap 2\n"
    ++ codes "trim\n"
    ++ codes "read 0 1 0 2\n"
    ++ codes "read 0 head 0 2\n"
    ++ codes "write 0 0 64\n"
    ++ codes "clones 0\n"
    ++ codes "trim\n"

abbrev pub events_read : List Event
events_read =
    events.Write 0 0 (97 ∷ 97 ∷ [])
    ∷ events.Snap
    ∷ events.Snap
    ∷ events.Write 0 0 (98 ∷ [])
    ∷ events.Snap
    ∷ events.Write 0 1 (99 ∷ [])
    ∷ events.Clones 0
    ∷ events.RmSnap 3
    ∷ events.Trim
    ∷ events.Clones 0
    ∷ events.Read 0 (at.Snap 2) 0 2
    ∷ events.Read 0 (at.Snap 3) 0 2
    ∷ events.RmSnap 2
    ∷ events.Trim
    ∷ events.Read 0 (at.Snap 1) 0 2
    ∷ events.Read 0 at.Head 0 2
    ∷ events.Write 0 0 (100 ∷ [])
    ∷ events.Clones 0
    ∷ events.Trim
    ∷ []

abbrev pub written : List ℕ
written =
    codes "ceph-trim-journal 1\n"
    ++ codes "1 write 0 0 6161 -> wrote 1\n"
    ++ codes "2 snap -> snap 1\n"
    ++ codes "3 snap -> snap 2\n"
    ++ codes "4 write 0 0 62 -> wrote 2\n"
    ++ codes "5 snap -> snap 3\n"
    ++ codes "6 write 0 1 63 -> wrote 3\n"
    ++ codes "7 clones 0 -> clones 2\n"
    ++ codes "8 rmsnap 3 -> removed 3 4\n"
    ++ codes "9 trim -> trimmed 1\n"
    ++ codes "10 clones 0 -> clones 1\n"
    ++ codes "11 read 0 2 0 2 -> bytes 6161\n"
    ++ codes "12 read 0 3 0 2 -> gone\n"
    ++ codes "13 rmsnap 2 -> removed 2 5\n"
    ++ codes "14 trim -> trimmed 0\n"
    ++ codes "15 read 0 1 0 2 -> bytes 6161\n"
    ++ codes "16 read 0 head 0 2 -> bytes 6263\n"
    ++ codes "17 write 0 0 64 -> wrote 4\n"
    ++ codes "18 clones 0 -> clones 2\n"
    ++ codes "19 trim -> trimmed 1\n"
    ++ codes "end 19\n"
