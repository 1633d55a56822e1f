-- A write of the last byte that a file may have, with a run in which the file may not grow so far.
use Rattle.std.specs.Prelude.{ℕ, List, [], ◌∷◌, codes, ◌++◌}
use Rattle.cs_laws.specs.declared.events.Event.{Event}
use Rattle.cs_laws.specs.declared.events.Event.TheVariants as events
use Rattle.cs_laws.specs.declared.events.RefName.TheVariants as names

abbrev pub input : List ℕ
input =
    codes "ceph-script 1\n"
    ++ codes "file 100 1\n"
    ++ codes "grant 100 Fw 1048576\n"
    ++ codes "toclient\n"
    ++ codes "begin 1 100 Fw 1048576\n"
    ++ codes "write 1 1 1048575 61\n"

-- the file may grow up to `most` bytes
abbrev pub begun_under : ℕ → List Event
begun_under most =
    events.File 100 1
    ∷ events.Grant 100 (record { 0 = 4096 }) most
    ∷ events.ToClient
    ∷ events.Begin 1 100 (record { 0 = 4096 }) 1048576
    ∷ []

abbrev pub events_read : List Event
events_read = begun_under 1048576 ++ events.Write 1 (names.Own 1) 1048575 (97 ∷ []) ∷ []

abbrev pub written : List ℕ
written =
    codes "ceph-journal 1\n"
    ++ codes "1 file 100 1 -> made\n"
    ++ codes "2 grant 100 Fw 1048576 -> sent 1 held Fw\n"
    ++ codes "3 toclient -> cap 100 1 Fw 1048576\n"
    ++ codes "4 begin 1 100 Fw 1048576 -> ref 1\n"
    ++ codes "5 write 1 1 1048575 61 -> wrote\n"
    ++ codes "end 5\n"
