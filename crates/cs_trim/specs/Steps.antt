-- What was done to a store. Lists of steps have the newest first.
use Rattle.std.specs.Prelude.{ℕ, ◌+◌, ◌==◌, List, [], ◌∷◌, if◌then◌else◌}
use Rattle.cs_trim.specs.declared.numbers.SnapStatus.{SnapStatus}
use Rattle.cs_trim.specs.declared.numbers.SnapStatus.TheVariants.{NoSnap, Gone, Standing}

-- a snapshot was taken; one was removed; bytes were written to an object from an offset on; clones were given up
pub data Step : Type 0 where
  taken : Step
  removed : ℕ → Step
  wrote : ℕ → ℕ → List ℕ → Step
  trimmed : Step

-- how many numbers were drawn, from 1 on: one for each snapshot and each removal
abbrev pub drawn : List Step → ℕ
drawn [] = 0
drawn (taken ∷ h) = drawn h + 1
drawn (removed s ∷ h) = drawn h + 1
drawn (wrote b off bytes ∷ h) = drawn h
drawn (trimmed ∷ h) = drawn h

-- what is known of a number
abbrev pub status : List Step → ℕ → SnapStatus
status [] n = NoSnap
status (taken ∷ h) n = if n == drawn h + 1 then Standing else status h n
status (removed s ∷ h) n = if n == s then Gone else status h n
status (wrote b off bytes ∷ h) n = status h n
status (trimmed ∷ h) n = status h n
