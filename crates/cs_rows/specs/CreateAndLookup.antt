-- A file that a request makes: the answer gives a lease, and the name stands.
use Rattle.std.specs.Prelude.{ℕ, List, [], ◌∷◌, codes, ◌++◌}
use Rattle.cs_laws.specs.declared.events.Event.{Event}
use Rattle.cs_laws.specs.declared.events.Event.TheVariants as events
use Rattle.cs_laws.specs.declared.requests.ReqOp.TheVariants as ops

abbrev pub input : List ℕ
input =
    codes "ceph-script 1\n"
    ++ codes "req 1 create 1 x\n"
    ++ codes "tomds\n"
    ++ codes "toclient\n"
    ++ codes "lookup 1 1 x\n"
    ++ codes "names 1\n"

abbrev pub events_read : List Event
events_read =
    events.Req 1 (ops.Create 1 (codes "x"))
    ∷ events.ToMds
    ∷ events.ToClient
    ∷ events.Lookup 1 1 (codes "x")
    ∷ events.Names 1
    ∷ []

abbrev pub written : List ℕ
written =
    codes "ceph-journal 1\n"
    ++ codes "1 req 1 create 1 x -> sent 1\n"
    ++ codes "2 tomds -> req 1 made 10000\n"
    ++ codes "3 toclient -> unsafe 1 made 10000\n"
    ++ codes "4 lookup 1 1 x -> hit 10000\n"
    ++ codes "5 names 1 -> names x=10000\n"
    ++ codes "end 5\n"
