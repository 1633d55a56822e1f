-- What a step does to the object store and to the log.
use Rattle.std.specs.Prelude.{◌≡◌, ℕ, Bool, true, false, List, ◌∷◌, ◌++◌, reverse, Result, OnErr}
use Rattle.cs_client.specs.Calls as calls
use Rattle.cs_mds.specs.Answers.{calls_log}
use Rattle.cs_laws.specs.declared.answers.Answer.{Answer}
use Rattle.cs_laws.specs.declared.answers.Answer.TheVariants as answers
use Rattle.cs_laws.specs.declared.answers.Entry.{Entry}
use Rattle.cs_laws.specs.declared.events.Event.{Event}
use Rattle.cs_laws.specs.declared.events.Event.TheVariants as events
use Rattle.cs_laws.specs.declared.faults.StepFault.{StepFault}
use Rattle.cs_laws.specs.declared.faults.StepFault.TheVariants as faults
use Rattle.cs_laws.specs.declared.objects.ObjOp.{ObjOp}
use Rattle.cs_laws.specs.Answers.{answer}
use Rattle.cs_laws.specs.Devices.{FaultsOf}
use Rattle.cs_laws.specs.History.{durable, fresh}
use Rattle.cs_laws.specs.Journal.{entry}
use Rattle.cs_laws.specs.Logged.{LogHalts}
use Rattle.cs_laws.specs.Operations.{applied, brought, operations_drawn}
use Rattle.cs_laws.specs.Refusals.{is_refusal}

-- The store. Its list of operations has the newest first, and what an entry brings the first one first.

-- the operations that an event brings after a history
abbrev pub brings : ℕ → List Entry → Event → List ObjOp
brings pages h e = brought e (answer pages h e) h (operations_drawn h)

-- a front of these operations was applied
pub record AppliesFront (ops old new : List ObjOp) : Type 0 where
  pub front : List ObjOp
  pub rest : List ObjOp
  pub whole : ops ≡ front ++ rest
  pub applied : new ≡ reverse front ++ old

-- an event that is answered so calls the store
abbrev pub calls_store : Event → Answer → Bool
calls_store (events.Show f at off len) (answers.Size meta bytes) = calls.has_some bytes
calls_store e a = calls.calls_store e a

-- ops, failed: the operations of a store, and its count of faults
pub record StoreOf {T S : Type 0} (ops : S → List ObjOp) (failed : S → ℕ) (pages : ℕ) (h : List Entry) (e : Event) (old new : S) (result : Result T StepFault)
    : Type 0 where
  -- after a fault a front of the event's operations stands behind those before
  pub front : OnErr result (AppliesFront (brings pages h e) (applied h) (ops new))
  -- it isn't touched where the event doesn't call it
  pub quiet : calls_store e (answer pages h e) ≡ false → new ≡ old
  pub faults : FaultsOf faults.Store (calls_store e (answer pages h e)) (failed old) (failed new) result

-- The log

-- the log, with these records of which so many are durable, is as the history says, or as it says with the event's entry
abbrev pub HaltsAt : ℕ → List Entry → Event → List (List ℕ) → ℕ → Type 0
HaltsAt pages h e rs n = LogHalts rs n (durable h) (fresh h) (durable (entry pages h e ∷ h)) (fresh (entry pages h e ∷ h))

-- records, count, failed: the records of a log, how many of them are durable, and its count of faults
pub record LogOf {T S : Type 0} (records : S → List (List ℕ)) (count failed : S → ℕ) (pages : ℕ) (h : List Entry) (e : Event) (old new : S) (result : Result T StepFault)
    : Type 0 where
  -- after a fault it is as before, or as the event's entry leaves it
  pub halted : OnErr result (HaltsAt pages h e (records new) (count new))
  -- it isn't touched where the event doesn't call it
  pub quiet : calls_log e (answer pages h e) ≡ false → new ≡ old
  pub faults : FaultsOf faults.Log (calls_log e (answer pages h e)) (failed old) (failed new) result

-- Events that call none

-- a step that adds nothing but its entry
abbrev pub adds_nothing : Event → Answer → Bool
adds_nothing (events.End caller name) a = true
adds_nothing (events.Check f) (answers.Hold bits) = true
adds_nothing e a = is_refusal e a

-- no event calls both devices
abbrev pub OneDevice : Type 0
OneDevice = (e : Event) (a : Answer) → calls_store e a ≡ true → calls_log e a ≡ false

-- a step that adds nothing but its entry calls none
pub record NoDevice (e : Event) (a : Answer) : Type 0 where
  pub store : calls_store e a ≡ false
  pub log : calls_log e a ≡ false

abbrev pub NothingCalls : Type 0
NothingCalls = (e : Event) (a : Answer) → adds_nothing e a ≡ true → NoDevice e a
