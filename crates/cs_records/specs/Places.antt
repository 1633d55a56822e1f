-- Where the flushes of a file stand: pairs of a flush's number and the place of its record.
use Rattle.std.specs.Prelude.{ℕ, ◌+◌, ◌<◌, ◌==◌, AllPairs, List, [], ◌∷◌, Option, Some, None, max, if◌then◌else◌}
use Rattle.cs_laws.specs.declared.records.Record.{Record}
use Rattle.cs_laws.specs.Carried.{flush_in}
use Rattle.cs_laws.specs.Flushes.{Flush}

-- each number is smaller than all behind it
abbrev pub ArePlaced : List (ℕ × ℕ) → Type 0
ArePlaced = AllPairs (λ x y. x.0 < y.0)

-- the greatest number, or 0 where there is none
abbrev pub greatest_in : List (ℕ × ℕ) → ℕ
greatest_in [] = 0
greatest_in (x ∷ xs) = max x.0 (greatest_in xs)

abbrev pub place_in : ℕ → List (ℕ × ℕ) → Option ℕ
place_in tid [] = None
place_in tid (x ∷ xs) = if x.0 == tid then Some x.1 else place_in tid xs

-- n: the place of the record of this flush
abbrev pub with_place : ℕ → ℕ → Option Flush → List (ℕ × ℕ) → List (ℕ × ℕ)
with_place f n None xs = xs
with_place f n (Some x) xs = if x.file == f then (x.tid, n) ∷ xs else xs

-- n: the place of the first of these records
abbrev pub places_from : ℕ → ℕ → List Record → List (ℕ × ℕ)
places_from f n [] = []
places_from f n (r ∷ rs) = with_place f n (flush_in r.body) (places_from f (n + 1) rs)
