use Rattle.std.proofs.Common.{◌≡◌, ◌∙◌, ℕ, List, sym, ap, true, is_some}
use Rattle.std.specs.Option.{option_map}
use Rattle.cs_requests.specs.declared.requests.OpenReq.{OpenReq}
use Rattle.cs_requests.specs.Requests.{open_at}
use Rattle.cs_requests.specs.RequestTable.{RequestTable}
use Rattle.cs_client.specs.Replies.{lease_by}
use Rattle.cs_client.specs.Requests.{lease_of, unanswered}
use Rattle.cs_client.proofs.Leased.{first_lease, is_some-copied, on_ok}
use Rattle.cs_client.proofs.replies.take_answer.Goals as goal

pub returns-clause-leases : goal.returns-clause-leases
returns-clause-leases c =
    let t = c.args.tid in
    let a = c.args.answer.now in
    let rs = c.args.requests.now.requests in
    let first : is_some (unanswered t rs) ≡ true =
    ap is_some (sym c.unanswered.ensures) ∙ (is_some-copied c.unanswered.result ∙ (sym c.is_some-is_first.ensures ∙ c.if-not-is_first.false)) in
    on_ok c.take_lease.result (λ gave. λ (d : ℕ) (name : List ℕ).
    let was = lease_of c.args.leases.now d name in
    gave d name
    ∙ (ap (λ (x : RequestTable). lease_by (option_map (λ (r : OpenReq). r.op) (open_at t x.requests)) t a x.requests c.args.clock d name was)
    c.unsafe_reply.ensures.requests
    ∙ first_lease t a rs c.args.clock d name was first)) c.take_lease.ensures
