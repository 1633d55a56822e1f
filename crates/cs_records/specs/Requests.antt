-- The requests: where the record of each stands, and its answer.
use Rattle.std.specs.Prelude.{ℕ, ◌+◌, ◌==◌, List, [], ◌∷◌, Option, Some, None, nat_eq, if◌then◌else◌}
use Rattle.indexmap.specs.IndexMap.{get}
use Rattle.cs_laws.specs.declared.records.Record.{Record}
use Rattle.cs_laws.specs.declared.records.RecordBody.{RecordBody}
use Rattle.cs_laws.specs.declared.records.RecordBody.TheVariants as bodies
use Rattle.cs_records.specs.declared.requests.Answered.{Answered}
use Rattle.cs_records.specs.declared.requests.Requests.{Requests}

-- by the table
abbrev pub answered_in : Requests → ℕ → Option Answered
answered_in t tid = get nat_eq t.answered tid

-- the request t, if it is the record at the place n, or else a later one
abbrev pub answered_at : ℕ → ℕ → RecordBody → Option Answered → Option Answered
answered_at t n (bodies.Request tid op answer) later = if tid == t then Some (record { place = n; answer = answer }) else later
answered_at t n _ later = later

-- by the records, of which the first stands at the place n
abbrev pub answered_from : ℕ → ℕ → List Record → Option Answered
answered_from t n [] = None
answered_from t n (r ∷ rs) = answered_at t n r.body (answered_from t (n + 1) rs)
