-- The requests that were sent, each with the answer that is settled when it is sent: the one on the namespace that those before it leave.
use Rattle.std.specs.Prelude.{◌≡◌, ℕ, ◌+◌, List, [], ◌∷◌, ◌++◌, Option, Some, None, flat_map}
use Rattle.std.specs.List.{filter_map}
use Rattle.cs_laws.specs.declared.events.Event.{Event}
use Rattle.cs_laws.specs.declared.events.Event.TheVariants as events
use Rattle.cs_laws.specs.declared.answers.Answer.{Answer}
use Rattle.cs_laws.specs.declared.answers.Answer.TheVariants as answers
use Rattle.cs_laws.specs.declared.answers.Entry.{Entry}
use Rattle.cs_laws.specs.declared.records.Record.{Record}
use Rattle.cs_laws.specs.declared.records.RecordBody.{RecordBody}
use Rattle.cs_laws.specs.declared.records.RecordBody.TheVariants as bodies
use Rattle.cs_laws.specs.declared.requests.OpAnswer.{OpAnswer}
use Rattle.cs_laws.specs.declared.requests.ReqOp.{ReqOp}
use Rattle.cs_laws.specs.Made.{Made, made_by}
use Rattle.cs_laws.specs.Names.{setup_names}
use Rattle.cs_laws.specs.Namespace.{Names, after, answer_on}

pub record Asked : Type 0 where
  pub tid : ℕ
  pub op : ReqOp
  pub answer : OpAnswer

-- the namespace that these leave
abbrev pub stage : Names → List Asked → Names
stage ns [] = ns
stage ns (x ∷ xs) = stage (after ns x.op) xs

-- ns: the namespace of the setup lines
abbrev pub asked_then : Event → Answer → Names → List Asked → List Asked
asked_then (events.Req caller op) (answers.Sent tid) ns xs = xs ++ record { tid = tid; op = op; answer = answer_on (stage ns xs) op } ∷ []
asked_then _ _ ns xs = xs

-- in the order in which they were sent
abbrev pub asked : List Entry → List Asked
asked [] = []
asked (x ∷ h) = asked_then x.event x.answer (setup_names h) (asked h)

-- numbered from n + 1 on, each with the answer on what those before it leave of ns
abbrev pub Settles : ℕ → Names → List Asked → Type 0
Settles n ns [] = Unit {0}
Settles n ns (x ∷ xs) = (x.tid ≡ n + 1) × (x.answer ≡ answer_on ns x.op) × Settles x.tid (after ns x.op) xs

-- what they make
abbrev pub asked_made : List Asked → List Made
asked_made xs = flat_map (λ x. made_by (Some x.op) x.answer) xs

-- the request that a record tells of
abbrev pub asked_in : RecordBody → Option Asked
asked_in (bodies.Request tid op answer) = Some (record { tid = tid; op = op; answer = answer })
asked_in _ = None

-- those that stand
abbrev pub asked_of : List Record → List Asked
asked_of rs = filter_map (λ r. asked_in r.body) rs
