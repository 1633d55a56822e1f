-- A header alone: an empty journal.
use Rattle.std.specs.Prelude.{ℕ, List, [], codes, ◌++◌}
use Rattle.cs_laws.specs.declared.events.Event.{Event}

abbrev pub input : List ℕ
input =
    codes "ceph-script 1\n"

abbrev pub events_read : List Event
events_read =
    []

abbrev pub written : List ℕ
written =
    codes "ceph-journal 1\n"
    ++ codes "end 0\n"
