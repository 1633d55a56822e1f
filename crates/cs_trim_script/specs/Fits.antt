-- Which events a line of a script spells.
use Rattle.std.specs.Prelude.{◌≡◌, ℕ, ◌+◌, ◌&&◌, Bool, true, List, length, nat_le, All}
use Rattle.cs_geom.specs.declared.places.TheConstants.{OBJECT_SIZE}
use Rattle.cs_laws.specs.Fits.{is_state, most_shown, most_written}
use Rattle.cs_trim_script.specs.declared.events.Event.{Event}
use Rattle.cs_trim_script.specs.declared.events.Event.TheVariants as events

-- so many bytes lie within an object, 0 to 63, from an offset on
abbrev pub lies_within : ℕ → ℕ → ℕ → Bool
lies_within b off count = nat_le b 63 && (nat_le off 65535 && nat_le (off + count) OBJECT_SIZE)

-- the numbers of the event are in the ranges that a script allows
abbrev pub fits : Event → Bool
fits events.Snap = true
fits (events.RmSnap s) = nat_le 1 s
fits (events.Write b off bytes) = lies_within b off (length bytes) && (nat_le 1 (length bytes) && nat_le (length bytes) most_written)
fits events.Trim = true
fits (events.Clones b) = nat_le b 63
fits (events.Read b a off len) = lies_within b off len && (is_state a && (nat_le 1 len && nat_le len most_shown))

abbrev pub AllFit : List Event → Type 0
AllFit es = All (λ e. fits e ≡ true) es
