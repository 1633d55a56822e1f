-- Writes of a writer that began after a snapshot don't reach it, and the head is pending until they are flushed.
use Rattle.std.specs.Prelude.{ℕ, false, List, [], ◌∷◌, codes, ◌++◌}
use Rattle.cs_laws.specs.declared.events.Event.{Event}
use Rattle.cs_laws.specs.declared.events.Event.TheVariants as events
use Rattle.cs_laws.specs.declared.events.RefName.TheVariants as names
use Rattle.cs_laws.specs.declared.objects.At.TheVariants as at
use Rattle.cs_laws.specs.Flushes.{Flush}
use Rattle.cs_rows.specs.UnderAWriter as under

abbrev pub input : List ℕ
input =
    under.input
    ++ codes "begin 1 100 Fw 4\n"
    ++ codes "write 1 2 0 7a\n"
    ++ codes "end 1 2\n"
    ++ codes "show 100 1 0 4\n"
    ++ codes "show 100 head 0 4\n"
    ++ codes "flush 100\n"
    ++ codes "tomds\n"
    ++ codes "commit\n"
    ++ codes "toclient\n"
    ++ codes "show 100 head 0 4\n"

abbrev pub events_read : List Event
events_read =
    under.events_read
    ++ events.Begin 1 100 (record { 0 = 4096 }) 4
    ∷ events.Write 1 (names.Own 2) 0 (122 ∷ [])
    ∷ events.End 1 (names.Own 2)
    ∷ events.Show 100 (at.Snap 1) 0 4
    ∷ events.Show 100 at.Head 0 4
    ∷ events.Flush 100
    ∷ events.ToMds
    ∷ events.Commit
    ∷ events.ToClient
    ∷ events.Show 100 at.Head 0 4
    ∷ []

abbrev pub written : List ℕ
written =
    under.lines_written
    ++ codes "18 begin 1 100 Fw 4 -> ref 2\n"
    ++ codes "19 write 1 2 0 7a -> wrote\n"
    ++ codes "20 end 1 2 -> ended\n"
    ++ codes "21 show 100 1 0 4 -> size 4 mtime 0 mode 0644 bytes 61616262\n"
    ++ codes "22 show 100 head 0 4 -> pending\n"
    ++ codes "23 flush 100 -> flush 2\n"
    ++ codes "24 tomds -> flushed 100 2\n"
    ++ codes "25 commit -> commit 1\n"
    ++ codes "26 toclient -> flushack 100 2\n"
    ++ codes "27 show 100 head 0 4 -> size 4 mtime 0 mode 0644 bytes 7a616262\n"
    ++ codes "end 27\n"

-- the cap snap, and then what the later writer left, under the context that has the snapshot
abbrev pub flushed : List Flush
flushed =
    under.flushed ++ record { tid = 2; file = 100; follows = 1; meta = record { size = 4; mtime = 0; mode = 420 }; snap = false } ∷ []
