-- Ranges of numbers.
use Rattle.std.specs.Prelude.{ℕ, ◌≤◌, nat_le, if◌then◌else◌, ◌&&◌, Option, Some, None}

-- the number is in the range, both ends included
abbrev pub IsIn : ℕ → ℕ → ℕ → Type 0
IsIn low high n = (low ≤ n) × (n ≤ high)

-- the number, where it is in the range
abbrev pub some_in : ℕ → ℕ → ℕ → Option ℕ
some_in low high n = if nat_le low n && nat_le n high then Some n else None
