-- The metadata of a file's flushes, by the number that each follows: pairs of such a number and the metadata under it.
use Rattle.std.specs.Prelude.{ℕ, ◌<◌, ◌==◌, AllPairs, Bool, List, [], ◌∷◌, Option, Some, None, nat_lt, unwrap_or, if◌then◌else◌}
use Rattle.cs_ids.specs.declared.objects.FileMeta.{FileMeta}
use Rattle.cs_laws.specs.declared.objects.At.{At}
use Rattle.cs_laws.specs.declared.records.Record.{Record}
use Rattle.cs_laws.specs.Carried.{flush_in}
use Rattle.cs_laws.specs.Flushes.{Flush}
use Rattle.cs_laws.specs.Metadata.{no_meta}
use Rattle.cs_laws.specs.Shown.{is_before}

-- each number is smaller than all behind it
abbrev pub AreRising : List (ℕ × FileMeta) → Type 0
AreRising = AllPairs (λ x y. x.0 < y.0)

-- the metadata under a number takes the place of what stands under it, or else goes to its place in the order of the numbers
abbrev pub with_recorded : ℕ × FileMeta → List (ℕ × FileMeta) → List (ℕ × FileMeta)
with_recorded x [] = x ∷ []
with_recorded x (y ∷ ys) = if nat_lt y.0 x.0 then y ∷ with_recorded x ys else if y.0 == x.0 then x ∷ ys else x ∷ y ∷ ys

-- the flush of a record, if it is one of the file
abbrev pub recorded_then : ℕ → Option Flush → List (ℕ × FileMeta) → List (ℕ × FileMeta)
recorded_then f None xs = xs
recorded_then f (Some x) xs = if x.file == f then with_recorded (x.follows, x.meta) xs else xs

abbrev pub recorded_after : ℕ → List (ℕ × FileMeta) → List Record → List (ℕ × FileMeta)
recorded_after f xs [] = xs
recorded_after f xs (r ∷ rs) = recorded_after f (recorded_then f (flush_in r.body) xs) rs

-- the metadata of the last flush of the file under each number that one follows
abbrev pub recorded : ℕ → List Record → List (ℕ × FileMeta)
recorded f rs = recorded_after f [] rs

-- A file's metadata at a state

-- the metadata that stands later, or, where there is none, this one, if it is of the time before the state
abbrev pub last_of : Option FileMeta → Bool → FileMeta → Option FileMeta
last_of (Some later) before meta = Some later
last_of None before meta = if before then Some meta else None

-- the metadata of the last one that is of the time before the state
abbrev pub last_before : At → List (ℕ × FileMeta) → Option FileMeta
last_before a [] = None
last_before a (x ∷ xs) = last_of (last_before a xs) (is_before a x.0) x.1

abbrev pub last_recorded : At → List (ℕ × FileMeta) → FileMeta
last_recorded a xs = unwrap_or (last_before a xs) no_meta
