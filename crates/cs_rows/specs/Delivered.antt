-- The first run, with the acknowledgement delivered to the server.
use Rattle.std.specs.Prelude.{ℕ, List, [], ◌∷◌, codes, ◌++◌}
use Rattle.cs_laws.specs.declared.events.Event.{Event}
use Rattle.cs_laws.specs.declared.events.Event.TheVariants as events
use Rattle.cs_rows.specs.HoldThenAck as held

abbrev pub input : List ℕ
input = held.input ++ codes "tomds\n"

abbrev pub events_read : List Event
events_read = held.events_read ++ events.ToMds ∷ []

abbrev pub written : List ℕ
written =
    held.written_so_far
    ++ codes "10 tomds -> capack 100 2 held Fr\n"
    ++ codes "end 10\n"
