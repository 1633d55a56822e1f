-- The open requests after a history, as the client's table has them.
use Rattle.std.specs.Prelude.{ℕ, ◌==◌, not, false, List, filter, find, length, map, Option}
use Rattle.std.specs.Option.{option_map}
use Rattle.cs_laws.specs.declared.answers.Entry.{Entry}
use Rattle.cs_laws.specs.declared.requests.OpAnswer.{OpAnswer}
use Rattle.cs_laws.specs.Requests.{Reply, Request, is_closed, replies, requests}
use Rattle.cs_requests.specs.declared.requests.OpenReq.{OpenReq}
use Rattle.cs_requests.specs.RequestTable.{RequestTable}

-- the first answer to a request that was delivered
abbrev pub reply_to : ℕ → List Reply → Option OpAnswer
reply_to t rs = option_map (λ r. r.answer) (find (λ r. r.tid == t) rs)

-- rs: the answers that were delivered
abbrev pub open_as : List Reply → Request → OpenReq
open_as rs x = record { tid = x.tid; caller = x.caller; op = x.op; answer = reply_to x.tid rs; resent = false }

abbrev pub open_requests : List Entry → List OpenReq
open_requests h = map (open_as (replies h)) (filter (λ x. not (is_closed h x.tid)) (requests h))

abbrev pub request_table : List Entry → RequestTable
request_table h = record { sent = length (requests h); requests = open_requests h }
