-- Requests that are sent.
use Rattle.std.specs.Prelude.{◌≡◌, ℕ, ◌+◌, List, [], ◌∷◌, None}
use Rattle.std.specs.BTreeMap.{get}
use Rattle.std.specs.Ordering.{nat_cmp}
use Rattle.cs_laws.specs.declared.answers.Answer.{Answer}
use Rattle.cs_laws.specs.declared.answers.Answer.TheVariants as answers
use Rattle.cs_laws.specs.declared.events.Event.{Event}
use Rattle.cs_laws.specs.declared.events.Event.TheVariants as events
use Rattle.cs_laws.specs.declared.requests.OpAnswer.TheVariants as replies
use Rattle.cs_laws.specs.declared.requests.ReqOp.{ReqOp}
use Rattle.cs_laws.specs.Made.{Made, made_by}
use Rattle.cs_requests.specs.RequestTable.{RequestTable}
use Rattle.cs_requests.specs.Requests.{sent_as}
use Rattle.cs_client.specs.Calls.{HasDrawn}
use Rattle.cs_client.specs.Requests.{unanswered}
use Rattle.cs_client.specs.Views.{ClientView}

-- a request has the next number
abbrev pub IsNumbered : Event → Answer → ClientView → Type 0
IsNumbered (events.Req caller op) a v = a ≡ answers.Sent (v.requests.sent + 1)
IsNumbered _ a v = Unit {0}

-- the client knows the root directory alone, and sent this request
pub record HasSent (op : ReqOp) (v : ClientView) : Type 0 where
  pub drawn : HasDrawn 2 v
  pub tree : v.tree ≡ record { ino = 1; path = 1 ∷ [] } ∷ []
  pub files : (f : ℕ) → get nat_cmp v.files f ≡ None
  pub requests : v.requests ≡ record { sent = 1; requests = sent_as 1 1 op ∷ [] }

-- what the first request made, where its answer is that it made inode 10,000
abbrev pub made_first : RequestTable → List Made
made_first x = made_by (unanswered 1 x.requests) (replies.Made 10000)
