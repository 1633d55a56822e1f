-- Which files a snapshot covers, by the way from their directory to the snapshot's.
use Rattle.std.specs.Prelude.{ℕ, ◌==◌, ◌&&◌, ◌||◌, not, nat_le, Bool, false, List, [], ◌∷◌}
use Rattle.cs_laws.specs.declared.records.Record.{Record}
use Rattle.cs_laws.specs.Realms.{is_realm, since_of}

-- a realm that was made behind a snapshot keeps it from what lies below
abbrev pub passes : ℕ → List Record → ℕ → Bool
passes s rs d = not (is_realm rs d) || nat_le (since_of rs d) s

-- the way, the nearest directory first, comes to e without such a realm
abbrev pub covers_along : ℕ → ℕ → List Record → List ℕ → Bool
covers_along s e rs [] = false
covers_along s e rs (d ∷ ds) = (d == e) || (passes s rs d && covers_along s e rs ds)
