-- Events that are turned down, or that find nothing to do, and a change of mode.
use Rattle.std.specs.Prelude.{ℕ, false, List, [], ◌∷◌, codes, ◌++◌}
use Rattle.cs_laws.specs.declared.events.Event.{Event}
use Rattle.cs_laws.specs.declared.events.Event.TheVariants as events
use Rattle.cs_laws.specs.declared.events.RefName.TheVariants as names
use Rattle.cs_laws.specs.Flushes.{Flush}

abbrev pub input : List ℕ
input =
    codes "ceph-script 1\n"
    ++ codes "file 100 1\n"
    ++ codes "grant 100 AxFr 0\n"
    ++ codes "toclient\n"
    ++ codes "begin 3 100 Fr 0\n"
    ++ codes "write 3 1 0 61\n"
    ++ codes "read 3 1 0 8\n"
    ++ codes "begin 3 100 Ax 0\n"
    ++ codes "chmod 3 2 0600\n"
    ++ codes "end 3 9\n"
    ++ codes "begin 3 100 Fw 0\n"
    ++ codes "flush 100\n"
    ++ codes "flush 100\n"
    ++ codes "check 100\n"
    ++ codes "check 100\n"
    ++ codes "clock 5\n"
    ++ codes "clock 4\n"

abbrev pub events_read : List Event
events_read =
    events.File 100 1
    ∷ events.Grant 100 (record { 0 = 2056 }) 0
    ∷ events.ToClient
    ∷ events.Begin 3 100 (record { 0 = 2048 }) 0
    ∷ events.Write 3 (names.Own 1) 0 (97 ∷ [])
    ∷ events.Read 3 (names.Own 1) 0 8
    ∷ events.Begin 3 100 (record { 0 = 8 }) 0
    ∷ events.Chmod 3 (names.Own 2) 384
    ∷ events.End 3 (names.Own 9)
    ∷ events.Begin 3 100 (record { 0 = 4096 }) 0
    ∷ events.Flush 100
    ∷ events.Flush 100
    ∷ events.Check 100
    ∷ events.Check 100
    ∷ events.Clock 5
    ∷ events.Clock 4
    ∷ []

abbrev pub written : List ℕ
written =
    codes "ceph-journal 1\n"
    ++ codes "1 file 100 1 -> made\n"
    ++ codes "2 grant 100 AxFr 0 -> sent 1 held AxFr\n"
    ++ codes "3 toclient -> cap 100 1 AxFr 0\n"
    ++ codes "4 begin 3 100 Fr 0 -> ref 1\n"
    ++ codes "5 write 3 1 0 61 -> nobit\n"
    ++ codes "6 read 3 1 0 8 -> bytes -\n"
    ++ codes "7 begin 3 100 Ax 0 -> ref 2\n"
    ++ codes "8 chmod 3 2 0600 -> done\n"
    ++ codes "9 end 3 9 -> unknown\n"
    ++ codes "10 begin 3 100 Fw 0 -> again caps\n"
    ++ codes "11 flush 100 -> flush 1\n"
    ++ codes "12 flush 100 -> clean\n"
    ++ codes "13 check 100 -> ack 1 AxFr\n"
    ++ codes "14 check 100 -> nothing\n"
    ++ codes "15 clock 5 -> now 5\n"
    ++ codes "16 clock 4 -> back\n"
    ++ codes "end 16\n"

-- one flush, of the new mode
abbrev pub flushed : List Flush
flushed =
    record { tid = 1; file = 100; follows = 0; meta = record { size = 0; mtime = 0; mode = 384 }; snap = false }
    ∷ []
