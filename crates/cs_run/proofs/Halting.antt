-- What the store and the log hold where a step stops.
use Rattle.std.proofs.Common.{◌≡◌, ◌∙◌, ap, refl, subst, sym, ℕ, Bool, true, false, List, Result, Err}
use Rattle.cs_laws.specs.declared.answers.Answer.{Answer}
use Rattle.cs_laws.specs.declared.answers.Entry.{Entry}
use Rattle.cs_laws.specs.declared.events.Event.{Event}
use Rattle.cs_laws.specs.declared.faults.StepFault.{StepFault}
use Rattle.cs_laws.specs.declared.faults.StepFault.TheVariants as stepping
use Rattle.cs_laws.specs.declared.objects.ObjOp.{ObjOp}
use Rattle.cs_laws.specs.Answers.{answer}
use Rattle.cs_laws.specs.Operations.{applied}
use Rattle.cs_world.specs.Devices.{AppliesFront, HaltsAt, LogOf, StoreOf, brings}
use Rattle.cs_world.proofs.Halts.{one_device}
use Rattle.cs_run.specs.Held.{Held, AgreesAt, LogsJournal}
use Rattle.cs_run.specs.Stopped.{HoldsIn}

holds_in : (f : StepFault) (pages : ℕ) (h : List Entry) (e : Event) (held : Held) → AppliesFront (brings pages h e) (applied h) held.ops
    → HaltsAt pages h e held.records held.durable → (f ≡ stepping.Store → LogsJournal h held) → (f ≡ stepping.Log → held.ops ≡ applied h)
    → HoldsIn f pages h e held
holds_in stepping.Store pages h e held front halted logged listed = (front, logged refl)
holds_in stepping.Log pages h e held front halted logged listed = (listed refl, halted)
holds_in stepping.Memory pages h e held front halted logged listed = (front, halted)

-- an event that calls the log doesn't call the store
other : (store log : Bool) → (store ≡ true → log ≡ false) → log ≡ true → store ≡ false
other true log alone calls = absurd (cc (alone refl, calls))
other false log alone calls = refl

abbrev pub failed : StepFault → Result Answer StepFault
failed f = Err f

-- s, t: the store before the step and after it, l, m: the log
pub step_holds : {S L : Type 0} (ops : S → List ObjOp) (store_failed : S → ℕ) (records : L → List (List ℕ)) (count log_failed : L → ℕ)
    (pages : ℕ) (h : List Entry) (e : Event) (s t : S) (l m : L) (f : StepFault) → AgreesAt h (record { ops = ops s; records = records l; durable = count l })
    → StoreOf ops store_failed pages h e s t (failed f) → LogOf records count log_failed pages h e l m (failed f)
    → HoldsIn f pages h e (record { ops = ops t; records = records m; durable = count m })
step_holds ops store_failed records count log_failed pages h e s t l m f agreed store log =
    let after : Held = record { ops = ops t; records = records m; durable = count m } in
    holds_in f pages h e after store.front log.halted
    (λ is.
    let same : m ≡ l = log.quiet (one_device e (answer pages h e) (store.faults.called (ap failed is))) in
    subst (λ k. LogsJournal h (record { ops = ops t; records = records k; durable = count k })) (sym same) agreed.log)
    (λ is.
    let same : t ≡ s = store.quiet (other _ _ (one_device e (answer pages h e)) (log.faults.called (ap failed is))) in
    ap ops same ∙ agreed.operations)
