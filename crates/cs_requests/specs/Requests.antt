-- The open requests, and what becomes of them.
use Rattle.std.specs.Prelude.{
  ℕ,
  ◌<◌,
  ◌==◌,
  ◌&&◌,
  not,
  nat_lt,
  Bool,
  true,
  false,
  List,
  [],
  ◌∷◌,
  filter,
  find,
  is_some,
  Option,
  Some,
  None,
  if◌then◌else◌,
}
use Rattle.std.specs.List.{list_any}
use Rattle.std.specs.Option.{option_and_then}
use Rattle.cs_laws.specs.declared.messages.Message.{Message}
use Rattle.cs_laws.specs.declared.messages.Message.TheVariants as messages
use Rattle.cs_laws.specs.declared.requests.OpAnswer.{OpAnswer}
use Rattle.cs_laws.specs.declared.requests.ReqOp.{ReqOp}
use Rattle.cs_laws.specs.Leases.{ino_in}
use Rattle.cs_laws.specs.Namespace.{names_entry}
use Rattle.cs_requests.specs.declared.requests.OpenReq.{OpenReq}

-- a request that was sent just now
abbrev pub sent_as : ℕ → ℕ → ReqOp → OpenReq
sent_as t caller op = record { tid = t; caller = caller; op = op; answer = None; resent = false }

-- the open request of a number
abbrev pub open_at : ℕ → List OpenReq → Option OpenReq
open_at t rs = find (λ r. r.tid == t) rs

abbrev pub is_open : ℕ → List OpenReq → Bool
is_open t rs = list_any (λ r. r.tid == t) rs

-- the request is open, and the client was told its answer
abbrev pub is_told : ℕ → List OpenReq → Bool
is_told t rs = is_some (option_and_then (λ r. r.answer) (open_at t rs))

-- an open request of a greater number names the entry
abbrev pub named_later : ℕ → ℕ → List ℕ → List OpenReq → Bool
named_later t d name rs = list_any (λ r. nat_lt t r.tid && names_entry r.op d name) rs

abbrev pub answered : ℕ → OpAnswer → OpenReq → OpenReq
answered t a r = if r.tid == t then record r { answer = Some a } else r

abbrev pub without : ℕ → List OpenReq → List OpenReq
without t rs = filter (λ r. not (r.tid == t)) rs

abbrev pub resent : OpenReq → OpenReq
resent r = record r { resent = true }

-- the inode that the answer tells of, if there is one
abbrev pub told_inode : Option OpAnswer → Option ℕ
told_inode a = option_and_then ino_in a

abbrev pub message_of : OpenReq → Message
message_of r = messages.Req r.tid (told_inode r.answer) r.op

abbrev pub oldest : List OpenReq → Option ℕ
oldest [] = None
oldest (r ∷ rs) = Some r.tid

-- their numbers are above this one, and ascend
abbrev pub Ascend : ℕ → List OpenReq → Type 0
Ascend n [] = Unit {0}
Ascend n (r ∷ rs) = (n < r.tid) × Ascend r.tid rs

abbrev pub IsInOrder : List OpenReq → Type 0
IsInOrder rs = Ascend 0 rs
