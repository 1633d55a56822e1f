-- How writing ends, by its status.
use Rattle.std.specs.Prelude.{◌≡◌, ℕ, ◌⊎◌, List, Option, codes}
use Rattle.std.specs.Io.KnownBytes.{Appends}
use Rattle.cs_ids.specs.Devices.{Rose}
use Rattle.cs_io.specs.Whole.{AppendsFront}

-- the bytes were written under a status that says so, or the writing stopped
pub record Writes (whole_status status : ℕ) (bytes : List ℕ) (taken_old taken_new : Option (List ℕ)) (faults_old faults_new : ℕ) : Type 0 where
  -- unless the writing stopped, the sink took all bytes
  pub whole : status ≡ whole_status → Appends taken_old taken_new bytes
  -- else it took a front of them
  pub cut : (status ≡ 5) ⊎ (status ≡ 8) → AppendsFront taken_old taken_new bytes
  -- 5: the sink failed
  pub sink : status ≡ 5 → Rose faults_old faults_new
  pub known : (status ≡ whole_status) ⊎ ((status ≡ 5) ⊎ (status ≡ 8))

abbrev pub usage_line : List ℕ
usage_line = codes "ceph-fault usage\n"
