-- A directory is made behind a snapshot of the root: once it is a realm of its own, that snapshot covers the files in it no more.
use Rattle.std.specs.Prelude.{ℕ, List, [], ◌∷◌, codes, ◌++◌}
use Rattle.cs_laws.specs.declared.events.Event.{Event}
use Rattle.cs_laws.specs.declared.events.Event.TheVariants as events
use Rattle.cs_laws.specs.declared.objects.At.TheVariants as at
use Rattle.cs_laws.specs.declared.requests.ReqOp.TheVariants as ops

abbrev pub input : List ℕ
input =
    codes "ceph-script 1\n"
    ++ codes "snap 1 a\n"
    ++ codes "req 1 mkdir 1 d\n"
    ++ codes "tomds\n"
    ++ codes "req 1 create 10000 x\n"
    ++ codes "tomds\n"
    ++ codes "commit\n"
    ++ codes "toclient\n"
    ++ codes "toclient\n"
    ++ codes "toclient\n"
    ++ codes "toclient\n"
    ++ codes "toclient\n"
    ++ codes "show 10001 1 0 4\n"
    ++ codes "snap 10000 b\n"
    ++ codes "show 10001 1 0 4\n"
    ++ codes "commit\n"
    ++ codes "toclient\n"
    ++ codes "show 10001 1 0 4\n"
    ++ codes "show 10001 2 0 4\n"

abbrev pub events_read : List Event
events_read =
    events.Snap 1 (codes "a")
    ∷ events.Req 1 (ops.Mkdir 1 (codes "d"))
    ∷ events.ToMds
    ∷ events.Req 1 (ops.Create 10000 (codes "x"))
    ∷ events.ToMds
    ∷ events.Commit
    ∷ events.ToClient
    ∷ events.ToClient
    ∷ events.ToClient
    ∷ events.ToClient
    ∷ events.ToClient
    ∷ events.Show 10001 (at.Snap 1) 0 4
    ∷ events.Snap 10000 (codes "b")
    ∷ events.Show 10001 (at.Snap 1) 0 4
    ∷ events.Commit
    ∷ events.ToClient
    ∷ events.Show 10001 (at.Snap 1) 0 4
    ∷ events.Show 10001 (at.Snap 2) 0 4
    ∷ []

abbrev pub written : List ℕ
written =
    codes "ceph-journal 1\n"
    ++ codes "1 snap 1 a -> snap 1\n"
    ++ codes "2 req 1 mkdir 1 d -> sent 1\n"
    ++ codes "3 tomds -> req 1 made 10000\n"
    ++ codes "4 req 1 create 10000 x -> sent 2\n"
    ++ codes "5 tomds -> req 2 made 10001\n"
    ++ codes "6 commit -> commit 3\n"
    ++ codes "7 toclient -> unsafe 1 made 10000\n"
    ++ codes "8 toclient -> unsafe 2 made 10001\n"
    ++ codes "9 toclient -> snap 1 1 0\n"
    ++ codes "10 toclient -> safe 1\n"
    ++ codes "11 toclient -> safe 2\n"
    ++ codes "12 show 10001 1 0 4 -> size 0 mtime 0 mode 0644 bytes -\n"
    ++ codes "13 snap 10000 b -> snap 2\n"
    ++ codes "14 show 10001 1 0 4 -> nosnap\n"
    ++ codes "15 commit -> commit 1\n"
    ++ codes "16 toclient -> snap 2 10000 0\n"
    ++ codes "17 show 10001 1 0 4 -> nosnap\n"
    ++ codes "18 show 10001 2 0 4 -> size 0 mtime 0 mode 0644 bytes -\n"
    ++ codes "end 18\n"
