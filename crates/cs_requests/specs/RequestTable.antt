-- What contracts see of the requests.
use Rattle.std.specs.Prelude.{ℕ, List}
use Rattle.cs_requests.specs.declared.requests.OpenReq.{OpenReq}

-- how many were sent, and those that are open, in the order of their numbers
pub record RequestTable : Type 0 where
  pub sent : ℕ
  pub requests : List OpenReq
