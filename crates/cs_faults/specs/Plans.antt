-- The calls of a device that fail.
use Rattle.std.specs.Prelude.{ℕ, ◌==◌, Bool, List, if◌then◌else◌}
use Rattle.std.specs.List.{list_any}
use Rattle.cs_faults.specs.Counts.{raised}

-- the numbers of the calls that fail, the number of the next call, and how often a call failed
pub record CallPlan : Type 0 where
  pub listed : List ℕ
  pub next : ℕ
  pub faults : ℕ

-- the calls are counted from 1
abbrev pub first_call : List ℕ → CallPlan
first_call calls = record { listed = calls; next = 1; faults = 0 }

-- the next call is one of those that fail
abbrev pub is_listed : CallPlan → Bool
is_listed p = list_any (λ call. call == p.next) p.listed

-- the calls after one that failed or didn't
abbrev pub after_call : Bool → CallPlan → CallPlan
after_call failed p = record {
  listed = p.listed;
  next = raised p.next;
  faults = if failed then raised p.faults else p.faults;
}
