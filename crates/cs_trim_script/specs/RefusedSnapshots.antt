-- Numbers that are no snapshot's, or whose snapshot is gone.
use Rattle.std.specs.Prelude.{ℕ, List, [], ◌∷◌, codes, ◌++◌}
use Rattle.cs_laws.specs.declared.objects.At.TheVariants as at
use Rattle.cs_trim_script.specs.declared.events.Event.{Event}
use Rattle.cs_trim_script.specs.declared.events.Event.TheVariants as events

abbrev pub input : List ℕ
input =
    codes "ceph-trim 1\n"
    ++ codes "read 5 head 0 2\n"
    ++ codes "snap\n"
    ++ codes "write 5 0 61\n"
    ++ codes "read 5 1 0 1\n"
    ++ codes "clones 5\n"
    ++ codes "rmsnap 2\n"
    ++ codes "rmsnap 1\n"
    ++ codes "rmsnap 2\n"
    ++ codes "rmsnap 1\n"
    ++ codes "trim\n"

abbrev pub events_read : List Event
events_read =
    events.Read 5 at.Head 0 2
    ∷ events.Snap
    ∷ events.Write 5 0 (97 ∷ [])
    ∷ events.Read 5 (at.Snap 1) 0 1
    ∷ events.Clones 5
    ∷ events.RmSnap 2
    ∷ events.RmSnap 1
    ∷ events.RmSnap 2
    ∷ events.RmSnap 1
    ∷ events.Trim
    ∷ []

abbrev pub written : List ℕ
written =
    codes "ceph-trim-journal 1\n"
    ++ codes "1 read 5 head 0 2 -> bytes 0000\n"
    ++ codes "2 snap -> snap 1\n"
    ++ codes "3 write 5 0 61 -> wrote 1\n"
    ++ codes "4 read 5 1 0 1 -> bytes 00\n"
    ++ codes "5 clones 5 -> clones 0\n"
    ++ codes "6 rmsnap 2 -> nosnap\n"
    ++ codes "7 rmsnap 1 -> removed 1 2\n"
    ++ codes "8 rmsnap 2 -> nosnap\n"
    ++ codes "9 rmsnap 1 -> gone\n"
    ++ codes "10 trim -> trimmed 0\n"
    ++ codes "end 10\n"
