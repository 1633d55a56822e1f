-- The store after an event: the operations of an entry have numbers of their own, so that all of them are applied.
use Rattle.std.proofs.Common.{◌≡◌, ◌∙◌, refl, sym, ap, subst, inl, ℕ, ◌+◌, ◌<◌, ◌≤◌, ◌==◌, Bool, true, false, List, [], ◌∷◌, ◌++◌, append_assoc, length, reverse, Option, Some, None, Result, Ok, Err, OnErr, IsErrOf, arith}
use Rattle.std.proofs.lemmas.Bool.Decides.{nat_tests}
use Rattle.std.proofs.lemmas.List.{append-nil, reverse-append}
use Rattle.cs_geom.specs.declared.places.Piece.{Piece}
use Rattle.cs_geom.specs.declared.places.TheConstants.{OBJECT_SIZE}
use Rattle.cs_geom.specs.Cuts.{pieces_of}
use Rattle.cs_parts.specs.declared.references.Live.{Live}
use Rattle.cs_snapctx.specs.Context.{Context}
use Rattle.cs_client.specs.Calls as calls
use Rattle.cs_client.specs.Calls.{is_call}
use Rattle.cs_objstore.specs.Files.{AppliesNew, with_new}
use Rattle.cs_objstore.specs.Stores.{has_tid}
use Rattle.cs_laws.specs.declared.events.Event.{Event}
use Rattle.cs_laws.specs.declared.events.Event.TheVariants as events
use Rattle.cs_laws.specs.declared.answers.Answer.{Answer}
use Rattle.cs_laws.specs.declared.answers.Answer.TheVariants as answers
use Rattle.cs_laws.specs.declared.answers.Entry.{Entry}
use Rattle.cs_laws.specs.declared.objects.ObjOp.{ObjOp}
use Rattle.cs_laws.specs.Agreement.{Agrees, StatesReadBack}
use Rattle.cs_laws.specs.Answers.{answer}
use Rattle.cs_laws.specs.Devices.{FaultsOf}
use Rattle.cs_laws.specs.declared.faults.StepFault.{StepFault}
use Rattle.cs_laws.specs.declared.faults.StepFault.TheVariants as faults
use Rattle.cs_laws.specs.History.{live}
use Rattle.cs_laws.specs.Operations.{applied, begun_under, brought, operation, operations, operations_drawn, written_on}
use Rattle.cs_laws.specs.References.{named}
use Rattle.cs_laws.specs.Runs.{IsRun}
use Rattle.cs_theorems.proofs.Agreeing.{reads_back}
use Rattle.cs_theorems.proofs.Listed.{Each, each_cons, each_tail}
use Rattle.cs_theorems.proofs.Operations.{applied_up_to}
use Rattle.cs_world.specs.Devices.{AppliesFront, StoreOf, brings, calls_store}
use Rattle.cs_world.specs.Parts.{LogAt}

-- what holds anyway holds after a fault
pub any_err : {T E Q : Type 0} (r : Result T E) → Q → OnErr r Q
any_err (Ok x) q = tt
any_err (Err e) q = q

-- Numbers above those that were drawn are new

abbrev UpTo : ℕ → List ObjOp → Type 0
UpTo n ops = Each (λ (o : ObjOp). o.tid ≤ n) ops

absent : (n : ℕ) (ops : List ObjOp) → UpTo n ops → (tid : ℕ) → n < tid → has_tid tid ops ≡ false
absent n [] low tid above = refl
absent n (o ∷ ops) low tid above =
    let small : o.tid ≤ n = low o (inl refl) in
    let other : (o.tid == tid) ≡ false = grind (arith, nat_tests, small, above) in
    rw (other, absent n ops (each_tail (λ (q : ObjOp). q.tid ≤ n) o ops low) tid above) refl

-- each has a number that neither the store has nor those before it
abbrev AreNew : List ObjOp → List ObjOp → Type 0
AreNew [] old = Unit {0}
AreNew (o ∷ ops) old = (has_tid o.tid old ≡ false) × AreNew ops (o ∷ old)

operations_new : (n f off : ℕ) (bytes : List ℕ) (ctx : Context) (ps : List Piece) (old : List ObjOp) → UpTo n old → AreNew (operations (n + 1) f off bytes ctx ps) old
operations_new n f off bytes ctx [] old low = tt
operations_new n f off bytes ctx (p ∷ ps) old low =
    let o : ObjOp = operation (n + 1) f off bytes ctx p in (
      absent n old low (n + 1) (omega arith),
      operations_new (n + 1) f off bytes ctx ps (o ∷ old) (each_cons (λ (q : ObjOp). q.tid ≤ n + 1) o old (omega arith) (λ q m. let small : q.tid ≤ n = low q m in omega (arith, small))),
    )

written_new : (found : Option Live) (under : Live → Context) (n off : ℕ) (bytes : List ℕ) (old : List ObjOp) → UpTo n old → AreNew (written_on found under n off bytes) old
written_new None under n off bytes old low = tt
written_new (Some r) under n off bytes old low = operations_new n r.file off bytes (under r) (pieces_of OBJECT_SIZE off (length bytes)) old low

brought_new : (e : Event) (a : Answer) (h : List Entry) (n : ℕ) (old : List ObjOp) → UpTo n old → AreNew (brought e a h n) old
brought_new (events.Write c name off bytes) answers.Wrote h n old low = written_new (named c name (live h)) (λ r. begun_under h r.caller r.number) n off bytes old low
brought_new _ _ h n old low = tt

new_are : (ops old : List ObjOp) → AreNew ops old → with_new ops old ≡ reverse ops ++ old
new_are [] old new = refl
new_are (o ∷ ops) old new =
    rw new.0 (new_are ops (o ∷ old) new.1 ∙ (sym (append_assoc (reverse ops) (o ∷ []) old) ∙ ap (λ xs. xs ++ old) (sym (reverse-append (o ∷ []) ops))))

front_new : (front rest old : List ObjOp) → AreNew (front ++ rest) old → AreNew front old
front_new [] rest old new = tt
front_new (o ∷ ops) rest old new = (new.0, front_new ops rest (o ∷ old) new.1)

-- What an event leaves

pub stored_then : (e : Event) (a : Answer) (h : List Entry) (ops old new : List ObjOp) → ops ≡ brought e a h (operations_drawn h) → old ≡ applied h → new ≡ with_new ops old
    → new ≡ applied (record { event = e; answer = a } ∷ h)
stored_then e a h ops old new are is c =
    c ∙ ((λ k. with_new (are k) (is k)) ∙ new_are (brought e a h (operations_drawn h)) (applied h) (brought_new e a h (operations_drawn h) (applied h) (applied_up_to h)))

pub front_then : (p : ℕ) (h : List Entry) (e : Event) (ops old new : List ObjOp) → ops ≡ brings p h e → old ≡ applied h → AppliesNew ops old new
    → AppliesFront (brings p h e) (applied h) new
front_then p h e ops old new are is c =
    let whole : brings p h e ≡ c.front ++ c.rest = sym are ∙ c.whole in
    let news : AreNew (c.front ++ c.rest) (applied h) =
    subst (λ os. AreNew os (applied h)) whole (brought_new e (answer p h e) h (operations_drawn h) (applied h) (applied_up_to h)) in
    record {
      front = c.front;
      rest = c.rest;
      whole = whole;
      applied = c.applied ∙ (ap (λ os. with_new c.front os) is ∙ new_are c.front (applied h) (front_new c.front c.rest (applied h) news));
    }

-- nothing was applied
pub front_none : (ops old new : List ObjOp) → new ≡ old → AppliesFront ops old new
front_none ops old new same = record { front = []; rest = ops; whole = refl; applied = same }

-- all was applied: the store lists what the history with the event's entry implies
pub front_listed : (p : ℕ) (h : List Entry) (e : Event) (a : Answer) (new : List ObjOp) → a ≡ answer p h e → new ≡ applied (record { event = e; answer = a } ∷ h)
    → AppliesFront (brings p h e) (applied h) new
front_listed p h e a new is listed = record {
  front = brings p h e;
  rest = [];
  whole = sym (append-nil (brings p h e));
  applied = listed ∙ ap (λ y. reverse (brought e y h (operations_drawn h)) ++ applied h) is;
}

-- with the log it agrees with the history
pub agrees_of : (p : ℕ) (h : List Entry) (ops : List ObjOp) (rs : List (List ℕ)) (n : ℕ) → IsRun p h → ops ≡ applied h → LogAt h rs n → Agrees ops rs n h
agrees_of p h ops rs n run is log = record {
  operations = is;
  log = log;
  states = let P : List ObjOp → Type 0 = λ os. StatesReadBack os h in subst P (sym is) (reads_back p h run);
}

-- The clause on the store

-- an event of the client's own calls the store where the client does
calls_alike : (e : Event) (a : Answer) → is_call e ≡ true → calls.calls_store e a ≡ calls_store e a
calls_alike (events.Show f at off len) a call = absurd (cc)
calls_alike _ a call = refl

-- after want of memory no device failed in the step
pub no_fault : {T U : Type 0} (kind : StepFault) (b : Bool) (before now : ℕ) (r : Result T StepFault) (q : Result U StepFault) → (IsErrOf q kind → ⊥) → FaultsOf kind b before now r
    → FaultsOf kind b before now q
no_fault kind b before now r q none f = record { later = f.later; cause = λ e. absurd (none e); called = λ e. absurd (none e) }

module _ {S : Type 0} (ops : S → List ObjOp) (failed : S → ℕ) (p : ℕ) (h : List Entry) (e : Event) (old new : S) (r : Result Answer StepFault) (b : Answer)
    (call : is_call e ≡ true) (is : b ≡ answer p h e) where
  same_calls : calls.calls_store e b ≡ calls_store e (answer p h e)
  same_calls = calls_alike e b call ∙ ap (λ y. calls_store e y) is

  pub store_of : OnErr r (AppliesFront (brings p h e) (applied h) (ops new)) → (calls.calls_store e b ≡ false → new ≡ old)
      → FaultsOf faults.Store (calls.calls_store e b) (failed old) (failed new) r → StoreOf ops failed p h e old new r
  store_of front quiet count = record {
    front = front;
    quiet = λ none. quiet (same_calls ∙ none);
    faults = subst (λ c. FaultsOf faults.Store c (failed old) (failed new) r) same_calls count;
  }

-- so it is of another outcome, where want of memory came behind the call
pub store_after : {S T U : Type 0} (ops : S → List ObjOp) (failed : S → ℕ) (p : ℕ) (h : List Entry) (e : Event) (old new : S) (r : Result T StepFault) (q : Result U StepFault)
    → (IsErrOf q faults.Store → ⊥) → AppliesFront (brings p h e) (applied h) (ops new) → StoreOf ops failed p h e old new r → StoreOf ops failed p h e old new q
store_after ops failed p h e old new r q none front s = record {
  front = any_err q front;
  quiet = s.quiet;
  faults = no_fault faults.Store (calls_store e (answer p h e)) (failed old) (failed new) r q none s.faults;
}
