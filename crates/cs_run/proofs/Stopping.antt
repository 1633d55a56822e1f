-- Where a run stops.
use Rattle.std.proofs.Common.{◌≡◌, ◌∙◌, sym, ap, refl, subst, ℕ, zero, suc, ◌+◌, ◌<◌, ◌≤◌, ◌==◌, Bool, true, false, cond, List, [], ◌∷◌, ◌++◌, length, take, drop, get_or, Option, Some, inl, inr, append_assoc, Result, Ok, Err, IfErr, arith}
use Rattle.std.specs.Result.{IsErrAnd}
use Rattle.std.proofs.lemmas.Bool.{eqb-true}
use Rattle.std.proofs.lemmas.Bool.Decides.{nat_tests}
use Rattle.std.proofs.lemmas.List.{append-nil, take_all, get_or_default}
use Rattle.std.proofs.lemmas.Option.{slice_get-get_or}
use Rattle.std.proofs.Math.Seq.{take-suc}
use Rattle.std.specs.Io.KnownBytes.{Appends}
use Rattle.cs_io.specs.Whole.{AppendsFront}
use Rattle.cs_io.proofs.Known.{appends_more, appends_none}
use Rattle.cs_laws.specs.declared.events.Event.{Event}
use Rattle.cs_laws.specs.declared.answers.Entry.{Entry}
use Rattle.cs_laws.specs.Journal.{journal, entry, header, lines, line, text, end_line}
use Rattle.cs_laws.specs.declared.faults.StepFault.{StepFault}
use Rattle.cs_laws.specs.declared.faults.StepFault.TheVariants as stepping
use Rattle.cs_run.specs.declared.run_fault.RunFault.{RunFault}
use Rattle.cs_run.specs.declared.run_fault.RunFault.TheVariants as faults
use Rattle.cs_status.specs.declared.write_fault.WriteFault.{WriteFault}
use Rattle.cs_status.specs.declared.write_fault.WriteFault.TheVariants as writing
use Rattle.cs_run.specs.Held.{Held, AgreesAt, IsBlank}
use Rattle.cs_run.specs.Statuses.{of_write, of_step}
use Rattle.cs_run.specs.Stopped.{written_before, written_by, HoldsIn, StopsAfter, StopsIn, Stops}
use Rattle.cs_run.proofs.Agreeing.{nothing_agrees}
use Rattle.cs_run.proofs.Runs.{history-append, journal_front}
use Rattle.cs_run.proofs.Journals.{text_history}
use Rattle.cs_status.proofs.Fronts.{longer, behind_whole, front_whole, took_nothing}

-- The journal of the events so far

journal-more : (pages : ℕ) (es : List Event) (i : ℕ) (e : Event) → i < length es → e ≡ get_or es i e
    → journal pages (take (suc i) es) ≡ entry pages (journal pages (take i es)) e ∷ journal pages (take i es)
journal-more pages es i e inside is =
    ap (λ xs. journal pages xs) (take-suc es i e inside)
    ∙ (history-append pages [] (take i es) (get_or es i e ∷ [])
    ∙ ap (λ x. entry pages (journal pages (take i es)) x ∷ journal pages (take i es)) (sym is))

-- one event more
pub journal_step : (pages kept : ℕ) (h more : List Entry) (es : List Event) (i : ℕ) (e : Event) → i < length es → e ≡ get_or es i e
    → kept ≡ pages → more ≡ entry kept h e ∷ h → h ≡ journal pages (take i es) → more ≡ journal pages (take (suc i) es)
journal_step pages kept h more es i e inside is same grown so_far = rw (grown, same, so_far) (sym (journal-more pages es i e inside is))

-- no event is left
pub journal_all : (pages : ℕ) (h : List Entry) (es : List Event) (i : ℕ) → length es ≤ i → h ≡ journal pages (take i es) → h ≡ journal pages es
journal_all pages h es i le so_far = so_far ∙ ap (λ xs. journal pages xs) (take_all i es le)

-- What is written so far

-- the lines before the last one's, and then its own
before_begins : (pages : ℕ) (es : List Event) (n : ℕ) → n ≤ length es
    → (part : List ℕ) × (header ++ lines (journal pages (take n es)) ≡ written_before pages es n ++ part)
before_begins pages es zero le = (header ++ lines (journal pages (take 0 es)), refl)
before_begins pages [] (suc n) le = absurd (omega arith)
before_begins pages (e ∷ es) (suc n) le =
    let h : List Entry = journal pages (take n (e ∷ es)) in
    let x : Event = get_or (e ∷ es) n e in
    let last : x ≡ get_or (e ∷ es) n x = get_or_default (e ∷ es) n e x (omega arith) in
    let more = journal-more pages (e ∷ es) n x (omega arith) last in (
      line (length h + 1) (entry pages h x),
      ap (λ hs. header ++ lines hs) more ∙ sym (append_assoc header (lines h) (line (length h + 1) (entry pages h x))),
    )

-- all lines so far, and the end line where no event is left
by_begins_if : (pages : ℕ) (es : List Event) (n : ℕ) (b : Bool) → (n == length es) ≡ b
    → (behind : List ℕ) × (cond b (text (journal pages es)) (header ++ lines (journal pages (take n es))) ≡ (header ++ lines (journal pages (take n es))) ++ behind)
by_begins_if pages es n true last =
    let all : take n es ≡ es = take_all n es (omega (arith, eqb-true n (length es) last)) in
    (end_line (length (journal pages es)), ap (λ xs. (header ++ lines (journal pages xs)) ++ end_line (length (journal pages es))) (sym all))
by_begins_if pages es n false last = ([], sym (append-nil (header ++ lines (journal pages (take n es)))))

by_begins : (pages : ℕ) (es : List Event) (n : ℕ) → (behind : List ℕ) × (written_by pages es n ≡ (header ++ lines (journal pages (take n es))) ++ behind)
by_begins pages es n = by_begins_if pages es n (n == length es) refl

by_all : (pages : ℕ) (es : List Event) (n : ℕ) → n ≡ length es → written_by pages es n ≡ text (journal pages es)
by_all pages es n e = grind (arith, nat_tests, e)

-- the text goes on from what is written by then
text_begins_if : (pages : ℕ) (es : List Event) (n : ℕ) (b : Bool) → (n == length es) ≡ b
    → (behind : List ℕ) × (text (journal pages es) ≡ cond b (text (journal pages es)) (header ++ lines (journal pages (take n es))) ++ behind)
text_begins_if pages es n true last = ([], sym (append-nil (text (journal pages es))))
text_begins_if pages es n false last =
    let h : List Entry = journal pages (take n es) in
    text_history pages h (drop n es) (journal pages es) (journal_front pages n es)

text_begins : (pages : ℕ) (es : List Event) (n : ℕ) → (behind : List ℕ) × (text (journal pages es) ≡ written_by pages es n ++ behind)
text_begins pages es n = text_begins_if pages es n (n == length es) refl

-- a front of what is written by then is a front of the text
pub front_of_text : (pages : ℕ) (es : List Event) (old new : Option (List ℕ)) (held : Held) → StopsAfter pages es old new held → AppendsFront old new (text (journal pages es))
front_of_text pages es old new held s =
    let rest = text_begins pages es s.done in
    longer old new (written_by pages es s.done) rest.0 (text (journal pages es)) rest.1 s.no_more

-- the lines before an event are a front of the text
front_in_text : (f : StepFault) (pages : ℕ) (es : List Event) (old new : Option (List ℕ)) (held : Held) → StopsIn f pages es old new held
    → AppendsFront old new (text (journal pages es))
front_in_text f pages es old new held s =
    let h : List Entry = journal pages (take s.done es) in
    let rest = text_history pages h (drop s.done es) (journal pages es) (journal_front pages s.done es) in
    rw rest.1 (front_whole old new (header ++ lines h) rest.0 s.lines)

-- whatever stops it
pub front_of_stop : (f : RunFault) (pages : ℕ) (es : List Event) (old new : Option (List ℕ)) (held : Held) → Stops f pages es old new held
    → AppendsFront old new (text (journal pages es))
front_of_stop faults.Sink pages es old new held s = front_of_text pages es old new held s
front_of_stop faults.Store pages es old new held s = front_in_text stepping.Store pages es old new held s
front_of_stop faults.Log pages es old new held s = front_in_text stepping.Log pages es old new held s
front_of_stop faults.Memory pages es old new held (inl s) = front_of_text pages es old new held s
front_of_stop faults.Memory pages es old new held (inr s) = front_in_text stepping.Memory pages es old new held s

-- a result is a fault of which this holds
pub if_err_is : (P : RunFault → Type 0) (r : Result (Unit {0}) RunFault) (x : RunFault) → IsErrAnd r (λ f. f ≡ x) → P x → IfErr r P
if_err_is P (Ok u) x is p = tt
if_err_is P (Err f) x is p = subst P (sym is) p

-- a writing that stops
pub stops_of_write : (w : WriteFault) (pages : ℕ) (es : List Event) (old new : Option (List ℕ)) (held : Held) → StopsAfter pages es old new held
    → Stops (of_write w) pages es old new held
stops_of_write writing.Sink pages es old new held s = s
stops_of_write writing.Memory pages es old new held s = inl s

-- a step that does
pub stops_of_step : (f : StepFault) (pages : ℕ) (es : List Event) (old new : Option (List ℕ)) (held : Held) → StopsIn f pages es old new held
    → Stops (of_step f) pages es old new held
stops_of_step stepping.Store pages es old new held s = s
stops_of_step stepping.Log pages es old new held s = s
stops_of_step stepping.Memory pages es old new held s = inr s

-- Where it stops

-- before anything was written
pub stops_at_once : (pages : ℕ) (es : List Event) (a : Option (List ℕ)) (held : Held) → IsBlank held → StopsAfter pages es a a held
stops_at_once pages es a held blank = record {
  done = 0;
  few = omega arith;
  lines = ([], appends_none a);
  no_more = took_nothing a (written_by pages es 0);
  agrees = nothing_agrees held blank;
}

-- in the header
pub stops_in_header : (pages : ℕ) (es : List Event) (old new : Option (List ℕ)) (held : Held) → IsBlank held → AppendsFront old new header
    → StopsAfter pages es old new held
stops_in_header pages es old new held blank t =
    let upto = by_begins pages es 0 in
    record {
      done = 0;
      few = omega arith;
      lines = (t.1.front, t.1.taken);
      no_more = longer old new header (lines (journal pages (take 0 es)) ++ upto.0) (written_by pages es 0) (upto.1 ∙ append_assoc header (lines (journal pages (take 0 es))) upto.0) t;
      agrees = nothing_agrees held blank;
    }

-- in an event
pub stops_in_event : (f : StepFault) (pages kept : ℕ) (es : List Event) (i : ℕ) (e : Event) (h : List Entry) (old new : Option (List ℕ)) (held : Held) → i < length es
    → e ≡ get_or es i e → kept ≡ pages → h ≡ journal pages (take i es) → Appends old new (header ++ lines h) → HoldsIn f kept h e held
    → StopsIn f pages es old new held
stops_in_event f pages kept es i e h old new held inside is same so_far taken holds = record {
  done = i;
  event = e;
  next = slice_get-get_or es i e inside ∙ ap (λ x. let o : Option Event = Some x in o) (sym is);
  lines = rw so_far at taken;
  holds = subst (λ hs. HoldsIn f pages hs e held) so_far (subst (λ k. HoldsIn f k h e held) same holds);
}

-- in the line of an event
pub stops_in_line : (pages : ℕ) (es : List Event) (i : ℕ) (h more : List Entry) (x : Entry) (n : ℕ) (old mid new : Option (List ℕ)) (held : Held) → i < length es
    → AgreesAt more held → h ≡ journal pages (take i es) → more ≡ x ∷ h → more ≡ journal pages (take (suc i) es)
    → n ≡ length h + 1 → Appends old mid (header ++ lines h) → AppendsFront mid new (line n x) → StopsAfter pages es old new held
stops_in_line pages es i h more x n old mid new held inside agreed so_far grown stepped count taken now =
    let upto = by_begins pages es (suc i) in
    let last : AppendsFront mid new (line (length h + 1) x) = rw count at now in
    let all : AppendsFront old new ((header ++ lines h) ++ line (length h + 1) x) = behind_whole old mid new (header ++ lines h) (line (length h + 1) x) taken last in
    let same : (header ++ lines h) ++ line (length h + 1) x ≡ header ++ lines (journal pages (take (suc i) es)) =
    append_assoc header (lines h) (line (length h + 1) x) ∙ ap (λ hs. header ++ lines hs) (sym grown ∙ stepped) in
    let P : List ℕ → Type 0 = λ xs. Appends old new (xs ++ last.1.front) in
    record {
      done = suc i;
      few = omega arith;
      lines = (last.1.front, subst P (ap (λ hs. header ++ lines hs) so_far) (appends_more old mid new (header ++ lines h) last.1.front taken last.1.taken));
      no_more = longer old new ((header ++ lines h) ++ line (length h + 1) x) upto.0 (written_by pages es (suc i)) (upto.1 ∙ ap (λ xs. xs ++ upto.0) (sym same)) all;
      agrees = subst (λ hs. AgreesAt hs held) stepped agreed;
    }

-- in the end line
pub stops_in_end : (pages : ℕ) (es : List Event) (n k : ℕ) (h : List Entry) (old mid new : Option (List ℕ)) (held : Held) → n ≡ length es
    → AgreesAt h held → h ≡ journal pages (take n es) → k ≡ length h
    → Appends old mid (header ++ lines h) → AppendsFront mid new (end_line k) → StopsAfter pages es old new held
stops_in_end pages es n k h old mid new held all agreed so_far count taken now =
    let from = before_begins pages es n (omega arith) in
    let end : AppendsFront mid new (end_line (length h)) = rw count at now in
    let whole : h ≡ journal pages es = journal_all pages h es n (omega arith) so_far in
    let written = behind_whole old mid new (header ++ lines h) (end_line (length h)) taken end in
    let P : List Entry → Type 0 = λ hs. AppendsFront old new (text hs) in
    let Q : List ℕ → Type 0 = λ xs. Appends old new xs in
    record {
      done = n;
      few = omega arith;
      lines = (
        from.0 ++ end.1.front,
        subst Q
            (ap (λ xs. xs ++ end.1.front) (ap (λ hs. header ++ lines hs) so_far ∙ from.1) ∙ append_assoc (written_before pages es n) from.0 end.1.front)
            (appends_more old mid new (header ++ lines h) end.1.front taken end.1.taken),
      );
      no_more = rw (by_all pages es n all) (subst P whole written);
      agrees = subst (λ hs. AgreesAt hs held) so_far agreed;
    }
