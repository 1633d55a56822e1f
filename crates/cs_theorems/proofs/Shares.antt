-- A reference's tag is the seq of the context that its file had when it began.
use Rattle.std.proofs.Common.{◌≡◌, refl, sym, ◌∙◌, ℕ, ◌+◌, ◌≤◌, true, false, List, [], ◌∷◌, ◌==◌, ◌&&◌, arith, inl, inr, ⊎_elim, subst}
use Rattle.std.proofs.lemmas.Bool.{cases_Bool, cond-true, cond-false, and_from, and_parts, eq-eqb, eqb-true, false_from_ne_true}
use Rattle.cs_bits.specs.declared.Caps.{Caps}
use Rattle.cs_parts.specs.declared.references.Live.{Live}
use Rattle.cs_parts.specs.References.{is_writer_of}
use Rattle.cs_snapctx.specs.Context.{Context}
use Rattle.cs_laws.specs.declared.events.Event.{Event}
use Rattle.cs_laws.specs.declared.events.Event.TheVariants as e
use Rattle.cs_laws.specs.declared.events.RefName.{RefName}
use Rattle.cs_laws.specs.declared.answers.Answer.{Answer}
use Rattle.cs_laws.specs.declared.answers.Entry.{Entry}
use Rattle.cs_laws.specs.CapSnaps.{is_open, is_writing}
use Rattle.cs_laws.specs.Events.{begun}
use Rattle.cs_laws.specs.History.{context, live, queued}
use Rattle.cs_laws.specs.Journal.{entry}
use Rattle.cs_laws.specs.Operations.{begun_under}
use Rattle.cs_theorems.specs.Contexts.{ContextsNeverFall, HadContext}
use Rattle.cs_theorems.specs.Snapshots.{TagsAreOfTheBegin, WritersShareAContext}
use Rattle.cs_theorems.proofs.Begun.{member_without_named}
use Rattle.cs_theorems.proofs.Contexts.{IsEarlier, had_earlier}
use Rattle.cs_theorems.proofs.Inversions.{BeginIs, begin_unknown, begin_caps, begin_snap, begin_max, begin_full, begun_ref, begin_is, EndIs, end_unknown, ended, end_is}
use Rattle.cs_theorems.proofs.Known.{LiveAreKnown}
use Rattle.cs_theorems.proofs.Listed.{Member, each_nil, each_end}
use Rattle.cs_theorems.proofs.Order.{NamesAt, Ordered, none_open}
use Rattle.cs_theorems.proofs.Tags.{at_present}
use Rattle.cs_theorems.proofs.Tests.{any_some}
use Rattle.cs_theorems.proofs.Writers.{tag_of_open}

-- the file of the reference had this context, and its seq is the tag
abbrev IsOfBegin : List Entry → Live → Context → Type 0
IsOfBegin h r c = (r.tag ≡ c.seq) × HadContext h r.file c

-- a reference that lives has another name than the one that begins
other_name : (h : List Entry) (c : ℕ) (r : Live) → NamesAt h → Member r (live h) → ((c == r.caller) && (begun h c + 1 == r.number)) ≡ false
other_name h c r names m = false_from_ne_true ((c == r.caller) && (begun h c + 1 == r.number)) (λ same.
    let parts = and_parts (c == r.caller) (begun h c + 1 == r.number) same in
    let low : r.number ≤ begun h c = subst (λ k. r.number ≤ begun h k) (sym (eqb-true c r.caller parts.0)) (names.drawn r m) in
    let number : begun h c + 1 ≡ r.number = eqb-true (begun h c + 1) r.number parts.1 in
    omega arith)

of_begin : (h : List Entry) (c g : ℕ) (b : Caps) (n : ℕ) (x : Answer) → BeginIs h c g b x → NamesAt h → TagsAreOfTheBegin h
    → TagsAreOfTheBegin (record { event = e.Begin c g b n; answer = x } ∷ h)
of_begin h c g b n x begin_unknown names i = λ r m. ((i r m).0, inr (i r m).1)
of_begin h c g b n x begin_caps names i = λ r m. ((i r m).0, inr (i r m).1)
of_begin h c g b n x begin_snap names i = λ r m. ((i r m).0, inr (i r m).1)
of_begin h c g b n x begin_max names i = λ r m. ((i r m).0, inr (i r m).1)
of_begin h c g b n x begin_full names i = λ r m. ((i r m).0, inr (i r m).1)
of_begin h c g b n x (begun_ref known issued free) names i =
    let after : List Entry = record { event = e.Begin c g b n; answer = x } ∷ h in
    each_end (λ r. IsOfBegin after r (begun_under after r.caller r.number)) (live h) _
    (λ r m. subst (λ u. IsOfBegin after r u)
    (sym (cond-false ((c == r.caller) && (begun h c + 1 == r.number)) (context h g) (begun_under h r.caller r.number) (other_name h c r names m)))
    ((i r m).0, inr (i r m).1))
    (subst (λ u. ((context h g).seq ≡ u.seq) × HadContext after g u)
    (sym (cond-true ((c == c) && (begun h c + 1 == begun h c + 1)) (context h g) (begun_under h c (begun h c + 1))
    (and_from (c == c) (begun h c + 1 == begun h c + 1) (eq-eqb c c refl) (eq-eqb (begun h c + 1) (begun h c + 1) refl))))
    (refl, inl (known, refl)))

of_end : (h : List Entry) (c : ℕ) (name : RefName) (x : Answer) → EndIs h c name x → TagsAreOfTheBegin h
    → TagsAreOfTheBegin (record { event = e.End c name; answer = x } ∷ h)
of_end h c name x end_unknown i = λ r m. ((i r m).0, inr (i r m).1)
of_end h c name x (ended can) i = λ r m. let was = i r (member_without_named c name (live h) r m) in (was.0, inr was.1)

pub shares_step : (p : ℕ) (h : List Entry) (x : Event) → Ordered h → LiveAreKnown h → TagsAreOfTheBegin h → TagsAreOfTheBegin (entry p h x ∷ h)
shares_step p h (e.Begin c f b n) order known i = of_begin h c f b n _ (begin_is h c f b n) order.0 i
shares_step p h (e.End c name) order known i = of_end h c name _ (end_is h c name) i
shares_step p h _ order known i = λ r m. ((i r m).0, inr (i r m).1)

pub shares_first : TagsAreOfTheBegin []
shares_first = each_nil (λ r. IsOfBegin [] r (begun_under [] r.caller r.number))

-- A writer's context

file_of : (f : ℕ) (r : Live) → is_writer_of f r ≡ true → r.file ≡ f
file_of f r w = eqb-true r.file f (and_parts (r.file == f) _ w).0

pub began_under : (h : List Entry) → Ordered h → ContextsNeverFall h → TagsAreOfTheBegin h → WritersShareAContext h
began_under h order rise i f r m w =
    let was = i r m in
    let now : IsEarlier (begun_under h r.caller r.number) (context h f) = had_earlier h f rise _ (subst (λ g. HadContext h g (begun_under h r.caller r.number)) (file_of f r w) was.1) in
    ⊎_elim
    (λ writing.
    let some = any_some (is_open (live h)) (queued h f) writing in
    inr (some.0, some.1, some.2, sym was.0 ∙ tag_of_open f _ _ (live h) _ (queued h f) some.0 (order.1 f) some.1 some.2 r m w))
    (λ none. inl (now.same (sym was.0 ∙ at_present f _ (live h) _ (queued h f) (order.1 f).tags (none_open f _ (live h) (queued h f) (order.1 f).opens none) r m w)))
    (cases_Bool (is_writing (live h) (queued h f)))
