-- How a trim ends, by its status.
use Rattle.std.specs.Prelude.{◌≡◌, ℕ, ◌⊎◌, IfSome}
use Rattle.std.specs.Io.KnownBytes.{Appends, IsAtEnd, Keeps}
use Rattle.cs_ids.specs.Devices.{Rose}
use Rattle.cs_io.specs.Whole.{AppendsFront}
use Rattle.cs_status.specs.Streams.{Streams}
use Rattle.cs_trim_run.specs.Inputs.{judged, output, status_of}

-- what was written stopped
abbrev pub IsStopStatus : ℕ → Type 0
IsStopStatus status = (status ≡ 5) ⊎ (status ≡ 8)

-- a fault ended the trim
abbrev pub IsFaultStatus : ℕ → Type 0
IsFaultStatus status = (status ≡ 4) ⊎ IsStopStatus status

-- what the call of a trim did
pub record TrimServed (status : ℕ) (before after : Streams) : Type 0 where
  -- 0 and 2: the source was read to its end
  pub read : (status ≡ 0) ⊎ (status ≡ 2) → IsAtEnd after.left
  -- 0, 2 and 3: this is what the input is, and the sink took the journal, the fault's line or the limit's line
  pub ended : (status ≡ 0) ⊎ ((status ≡ 2) ⊎ (status ≡ 3))
      → IfSome before.left (λ b. (status ≡ status_of (judged b)) × Appends before.taken after.taken (output (judged b)))
  -- 4: the source failed, and the sink took nothing
  pub source : status ≡ 4 → Rose before.source_faults after.source_faults × Keeps before.taken after.taken
  -- 5: the sink failed
  pub sink : status ≡ 5 → Rose before.sink_faults after.sink_faults
  -- 5 and 8: the sink took a front of what it would have taken
  pub cut : IsStopStatus status → IfSome before.left (λ b. AppendsFront before.taken after.taken (output (judged b)))
  -- unless a fault comes first, the status is that of the input
  pub decided : IfSome before.left (λ b. (status ≡ status_of (judged b)) ⊎ IsFaultStatus status)
  pub known : (status ≡ 0) ⊎ ((status ≡ 2) ⊎ ((status ≡ 3) ⊎ IsFaultStatus status))
