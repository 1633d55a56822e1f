-- What holds of every history that a run can have.
use Rattle.std.proofs.Common.{◌≡◌, sym, ap, subst, ℕ, List, [], ◌∷◌, ◌++◌}
use Rattle.cs_laws.specs.declared.events.Event.{Event}
use Rattle.cs_laws.specs.declared.answers.Entry.{Entry}
use Rattle.cs_laws.specs.Journal.{entry}
use Rattle.cs_laws.specs.Laws.{InEveryPrefix}
use Rattle.cs_laws.specs.Runs.{CanFollow, IsRun}

-- the entry of an event of a run
pub entry_is : (p : ℕ) (h : List Entry) (x : Entry) → IsRun p (x ∷ h) → entry p h x.event ≡ x
entry_is p h x run = ap (λ y. let e : Entry = record { event = x.event; answer = y } in e) (sym run.0.1)

-- what holds at first and is kept by each event that may come
pub of_run : (p : ℕ) (P : List Entry → Type 0) → P [] → ((h : List Entry) (e : Event) → CanFollow h e → IsRun p h → P h → P (entry p h e ∷ h))
    → (h : List Entry) → IsRun p h → P h
of_run p P nil step [] run = nil
of_run p P nil step (x ∷ h) run =
    subst (λ y. P (y ∷ h)) (entry_is p h x run) (step h x.event run.0.0 run.1 (of_run p P nil step h run.1))

-- the part of a run up to an entry is a run
pub run_before : (p : ℕ) (new h : List Entry) → IsRun p (new ++ h) → IsRun p h
run_before p [] h run = run
run_before p (x ∷ new) h run = run_before p new h run.1

pub in_every_prefix : (p : ℕ) (P : List Entry → Type 0) → ((g : List Entry) → IsRun p g → P g) → (h : List Entry) → IsRun p h → InEveryPrefix P h
in_every_prefix p P all h run before new is = all before (run_before p new before (subst (λ g. IsRun p g) is run))
