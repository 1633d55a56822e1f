-- The entries of the table of requests.
use Rattle.std.specs.Prelude.{◌≡◌, ℕ, ◌≤◌, List}
use Rattle.std.specs.List.{AllByRecursion}
use Rattle.std.specs.Map.{values_of}
use Rattle.cs_requests.specs.declared.requests.OpenReq.{OpenReq}
use Rattle.cs_requests.specs.Requests.{IsInOrder}

-- a request stands under its own number, which was drawn
pub record IsEntry (sent : ℕ) (e : ℕ × OpenReq) : Type 0 where
  pub number : e.0 ≡ e.1.tid
  pub drawn : e.0 ≤ sent

pub record AreEntries (sent : ℕ) (es : List (ℕ × OpenReq)) : Type 0 where
  pub each : AllByRecursion (IsEntry sent) es
  pub order : IsInOrder (values_of es)
