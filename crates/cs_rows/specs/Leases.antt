-- A lease that expires, one that the server ends, and one that a request ends.
use Rattle.std.specs.Prelude.{ℕ, List, [], ◌∷◌, codes, ◌++◌}
use Rattle.cs_laws.specs.declared.events.Event.{Event}
use Rattle.cs_laws.specs.declared.events.Event.TheVariants as events
use Rattle.cs_laws.specs.declared.requests.ReqOp.TheVariants as ops

abbrev pub input : List ℕ
input =
    codes "ceph-script 1\n"
    ++ codes "req 1 create 1 x\n"
    ++ codes "tomds\n"
    ++ codes "toclient\n"
    ++ codes "lookup 1 1 x\n"
    ++ codes "clock 60\n"
    ++ codes "lookup 1 1 x\n"
    ++ codes "req 1 lookup 1 x\n"
    ++ codes "lookup 1 1 x\n"
    ++ codes "tomds\n"
    ++ codes "toclient\n"
    ++ codes "unlease 1 x\n"
    ++ codes "lookup 1 1 x\n"
    ++ codes "toclient\n"
    ++ codes "lookup 1 1 x\n"

abbrev pub events_read : List Event
events_read =
    events.Req 1 (ops.Create 1 (codes "x"))
    ∷ events.ToMds
    ∷ events.ToClient
    ∷ events.Lookup 1 1 (codes "x")
    ∷ events.Clock 60
    ∷ events.Lookup 1 1 (codes "x")
    ∷ events.Req 1 (ops.Lookup 1 (codes "x"))
    ∷ events.Lookup 1 1 (codes "x")
    ∷ events.ToMds
    ∷ events.ToClient
    ∷ events.Unlease 1 (codes "x")
    ∷ events.Lookup 1 1 (codes "x")
    ∷ events.ToClient
    ∷ events.Lookup 1 1 (codes "x")
    ∷ []

abbrev pub written : List ℕ
written =
    codes "ceph-journal 1\n"
    ++ codes "1 req 1 create 1 x -> sent 1\n"
    ++ codes "2 tomds -> req 1 made 10000\n"
    ++ codes "3 toclient -> unsafe 1 made 10000\n"
    ++ codes "4 lookup 1 1 x -> hit 10000\n"
    ++ codes "5 clock 60 -> now 60\n"
    ++ codes "6 lookup 1 1 x -> expired 60\n"
    ++ codes "7 req 1 lookup 1 x -> sent 2\n"
    ++ codes "8 lookup 1 1 x -> absent\n"
    ++ codes "9 tomds -> req 2 found 10000\n"
    ++ codes "10 toclient -> unsafe 2 found 10000\n"
    ++ codes "11 unlease 1 x -> sent\n"
    ++ codes "12 lookup 1 1 x -> hit 10000\n"
    ++ codes "13 toclient -> unlease 1 x\n"
    ++ codes "14 lookup 1 1 x -> absent\n"
    ++ codes "end 14\n"
