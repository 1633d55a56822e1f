-- The first run: a revocation is held while a reference uses its bits, then acknowledged.
use Rattle.std.specs.Prelude.{ℕ, List, [], ◌∷◌, codes, ◌++◌}
use Rattle.cs_laws.specs.declared.events.Event.{Event}
use Rattle.cs_laws.specs.declared.events.Event.TheVariants as events
use Rattle.cs_laws.specs.declared.events.RefName.TheVariants as names

abbrev pub input : List ℕ
input =
    codes "ceph-script 1\n"
    ++ codes "file 100 1\n"
    ++ codes "grant 100 Frw 4096\n"
    ++ codes "toclient\n"
    ++ codes "begin 1 100 Fw 8\n"
    ++ codes "revoke 100 Fw\n"
    ++ codes "toclient\n"
    ++ codes "check 100\n"
    ++ codes "end 1 1\n"
    ++ codes "check 100\n"

abbrev pub events_read : List Event
events_read =
    events.File 100 1
    ∷ events.Grant 100 (record { 0 = 6144 }) 4096
    ∷ events.ToClient
    ∷ events.Begin 1 100 (record { 0 = 4096 }) 8
    ∷ events.Revoke 100 (record { 0 = 4096 })
    ∷ events.ToClient
    ∷ events.Check 100
    ∷ events.End 1 (names.Own 1)
    ∷ events.Check 100
    ∷ []

-- the journal without its end line
abbrev pub written_so_far : List ℕ
written_so_far =
    codes "ceph-journal 1\n"
    ++ codes "1 file 100 1 -> made\n"
    ++ codes "2 grant 100 Frw 4096 -> sent 1 held Frw\n"
    ++ codes "3 toclient -> cap 100 1 Frw 4096\n"
    ++ codes "4 begin 1 100 Fw 8 -> ref 1\n"
    ++ codes "5 revoke 100 Fw -> sent 2 held Frw\n"
    ++ codes "6 toclient -> cap 100 2 Fr 4096\n"
    ++ codes "7 check 100 -> hold Fw\n"
    ++ codes "8 end 1 1 -> ended\n"
    ++ codes "9 check 100 -> ack 2 Fr\n"

abbrev pub written : List ℕ
written = written_so_far ++ codes "end 9\n"
