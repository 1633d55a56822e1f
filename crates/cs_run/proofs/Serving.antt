-- How a run ends, from what was read and what was written.
use Rattle.std.proofs.Common.{◌≡◌, ◌≢◌, ◌∙◌, ap, subst, refl, ℕ, ◌<◌, ◌⊎◌, inl, inr, List, Option, Some, None, IfSome, Result, Ok, Err, OnOk, IfErr, IsErrOf, arith}
use Rattle.std.specs.Io.KnownBytes.{Appends}
use Rattle.cs_ids.specs.Devices.{Rose}
use Rattle.cs_io.specs.Whole.{AppendsFront}
use Rattle.cs_io.specs.declared.whole.ReadFault.{ReadFault}
use Rattle.cs_io.specs.declared.whole.ReadFault.TheVariants as reading
use Rattle.cs_io.proofs.Known.{took_none}
use Rattle.cs_laws.specs.declared.events.Event.{Event}
use Rattle.cs_laws.specs.Journal.{journal, text}
use Rattle.cs_laws.specs.Runs.{IsRun}
use Rattle.cs_theorems.proofs.Together.{lawful}
use Rattle.cs_run.specs.declared.input.Input.{Input}
use Rattle.cs_run.specs.declared.input.Input.TheVariants.{Refused, Runs}
use Rattle.cs_status.specs.declared.refusal.Refusal.{Refusal}
use Rattle.cs_status.specs.declared.refusal.Refusal.TheVariants as refusals
use Rattle.cs_run.specs.declared.run_fault.RunFault.{RunFault}
use Rattle.cs_run.specs.declared.run_fault.RunFault.TheVariants as faults
use Rattle.cs_run.specs.Held.{Held, AgreesAt, IsBlank}
use Rattle.cs_run.specs.Inputs.{judged, status_of, output, AgreesWith, IsLawfulRun, JudgesWhole}
use Rattle.cs_status.specs.Refusals.{refusal_line, refusal_status}
use Rattle.cs_run.specs.Served.{Served, Ends, IsFaultStatus, IsStopStatus}
use Rattle.cs_run.specs.Statuses.{run_status}
use Rattle.cs_run.specs.Stopped.{Stops, StopsInput}
use Rattle.cs_run.proofs.Stopping.{stops_at_once, front_of_stop}
use Rattle.cs_status.specs.Statuses.{read_status}
use Rattle.cs_status.specs.Writes.{Writes}
use Rattle.cs_status.proofs.Judging.{any_some, keeps_same, refused_small}

-- Statuses

-- not one of these
no_stop : (s : ℕ) → s < 5 → IsStopStatus s → ⊥
no_stop s small (inl e) = omega arith
no_stop s small (inr (inl e)) = omega arith
no_stop s small (inr (inr (inl e))) = omega arith
no_stop s small (inr (inr (inr e))) = omega arith

no_end : (s : ℕ) → 3 < s → (s ≡ 0) ⊎ ((s ≡ 2) ⊎ (s ≡ 3)) → ⊥
no_end s great (inl e) = omega arith
no_end s great (inr (inl e)) = omega arith
no_end s great (inr (inr e)) = omega arith

-- The input wasn't read

unstarted : (pages : ℕ) (input : Input) (taken : Option (List ℕ)) (held : Held) → IsBlank held
    → StopsInput faults.Memory pages input taken taken held
unstarted pages (Runs es) taken held blank = inl (stops_at_once pages es taken held blank)
unstarted pages (Refused r) taken held blank = blank

pub unread : (pages : ℕ) (fault : ReadFault) (left_old left_new taken : Option (List ℕ)) (s t m : ℕ) (held : Held) (k n : ℕ)
    → (fault ≡ reading.Failed → Rose s t) → IsBlank held
    → Served pages (read_status fault)
    (record { left = left_old; source_faults = s; taken = taken; sink_faults = m; held = held; store_faults = k; log_faults = n })
    (record { left = left_new; source_faults = t; taken = taken; sink_faults = m; held = held; store_faults = k; log_faults = n })
unread pages reading.Failed left_old left_new taken s t m held k n rose blank = record {
  done = λ e. absurd (omega arith);
  refused = λ e. absurd (omega arith);
  ended = λ e. absurd (no_end 4 (omega arith) e);
  source = λ e. (rose refl, keeps_same taken);
  sink = λ e. absurd (omega arith);
  store = λ e. absurd (omega arith);
  log = λ e. absurd (omega arith);
  memory = λ e. absurd (omega arith);
  cut = λ e. absurd (no_stop 4 (omega arith) e);
  decided = any_some left_old (λ b. (4 ≡ status_of (judged b)) ⊎ IsFaultStatus 4) (λ b. inr (inl refl));
  known = inr (inr (inr (inl refl)));
}
unread pages reading.Memory left_old left_new taken s t m held k n rose blank = record {
  done = λ e. absurd (omega arith);
  refused = λ e. absurd (omega arith);
  ended = λ e. absurd (no_end 8 (omega arith) e);
  source = λ e. absurd (omega arith);
  sink = λ e. absurd (omega arith);
  store = λ e. absurd (omega arith);
  log = λ e. absurd (omega arith);
  memory = λ e. any_some left_old (λ b. StopsInput faults.Memory pages (judged b) taken taken held) (λ b. unstarted pages (judged b) taken held blank);
  cut = λ e. any_some left_old (λ b. AppendsFront taken taken (output pages (judged b))) (λ b. (output pages (judged b), took_none taken (output pages (judged b))));
  decided = any_some left_old (λ b. (8 ≡ status_of (judged b)) ⊎ IsFaultStatus 8) (λ b. inr (inr (inr (inr (inr refl)))));
  known = inr (inr (inr (inr (inr (inr (inr refl))))));
}

-- The input is refused

stop_of : (k s : ℕ) → (s ≡ k) ⊎ ((s ≡ 5) ⊎ (s ≡ 8)) → (s ≡ k) ⊎ IsStopStatus s
stop_of k s (inl e) = inl e
stop_of k s (inr (inl e)) = inr (inl e)
stop_of k s (inr (inr e)) = inr (inr (inr (inr e)))

writing_stop : (k s : ℕ) → k < 4 → (s ≡ k) ⊎ ((s ≡ 5) ⊎ (s ≡ 8)) → IsStopStatus s → (s ≡ 5) ⊎ (s ≡ 8)
writing_stop k s small (inl e) stop = absurd (no_stop s (omega arith) stop)
writing_stop k s small (inr known) stop = known

-- n: the status of a device that was not called
not_called : (n k s : ℕ) → 5 < n → n < 8 → k < 4 → (s ≡ k) ⊎ ((s ≡ 5) ⊎ (s ≡ 8)) → s ≡ n → ⊥
not_called n k s great less small (inl e) is = omega arith
not_called n k s great less small (inr (inl e)) is = omega arith
not_called n k s great less small (inr (inr e)) is = omega arith

pub refused : (pages : ℕ) (r : Refusal) (status : ℕ) (taken_old taken_new : Option (List ℕ)) (m n : ℕ) (held : Held) (j k p q : ℕ) → IsBlank held
    → Writes (refusal_status r) status (refusal_line r) taken_old taken_new m n
    → Ends pages (Refused r) status taken_old taken_new m n held j k p q
refused pages r status taken_old taken_new m n held j k p q blank w = record {
  lawful = tt;
  whole = λ e. (w.whole e, blank);
  sink = λ e. (w.sink e, blank);
  store = λ e. absurd (not_called 6 (refusal_status r) status (omega arith) (omega arith) (refused_small r) w.known e);
  log = λ e. absurd (not_called 7 (refusal_status r) status (omega arith) (omega arith) (refused_small r) w.known e);
  memory = λ e. blank;
  cut = λ e. w.cut (writing_stop (refusal_status r) status (refused_small r) w.known e);
  known = stop_of (refusal_status r) status w.known;
}

-- The input is run

pub ran : (pages : ℕ) (es : List Event) (r : Result (Unit {0}) RunFault) (a b : Option (List ℕ)) (m n : ℕ) (held : Held) (j k p q : ℕ)
    → IsRun pages (journal pages es) → OnOk r (Appends a b (text (journal pages es))) → OnOk r (AgreesAt (journal pages es) held)
    → IfErr r (λ f. Stops f pages es a b held) → (IsErrOf r faults.Sink → Rose m n) → (IsErrOf r faults.Store → Rose j k)
    → (IsErrOf r faults.Log → Rose p q) → Ends pages (Runs es) (run_status r) a b m n held j k p q
ran pages es (Ok x) a b m n held j k p q run whole agreed stops sink store log = record {
  lawful = lawful pages (journal pages es) run;
  whole = λ e. (whole, agreed);
  sink = λ e. absurd (omega arith);
  store = λ e. absurd (omega arith);
  log = λ e. absurd (omega arith);
  memory = λ e. absurd (omega arith);
  cut = λ e. absurd (no_stop 0 (omega arith) e);
  known = inl refl;
}
ran pages es (Err faults.Sink) a b m n held j k p q run whole agreed stops sink store log = record {
  lawful = lawful pages (journal pages es) run;
  whole = λ e. absurd (omega arith);
  sink = λ e. (sink refl, stops);
  store = λ e. absurd (omega arith);
  log = λ e. absurd (omega arith);
  memory = λ e. absurd (omega arith);
  cut = λ e. front_of_stop faults.Sink pages es a b held stops;
  known = inr (inl refl);
}
ran pages es (Err faults.Store) a b m n held j k p q run whole agreed stops sink store log = record {
  lawful = lawful pages (journal pages es) run;
  whole = λ e. absurd (omega arith);
  sink = λ e. absurd (omega arith);
  store = λ e. (store refl, stops);
  log = λ e. absurd (omega arith);
  memory = λ e. absurd (omega arith);
  cut = λ e. front_of_stop faults.Store pages es a b held stops;
  known = inr (inr (inl refl));
}
ran pages es (Err faults.Log) a b m n held j k p q run whole agreed stops sink store log = record {
  lawful = lawful pages (journal pages es) run;
  whole = λ e. absurd (omega arith);
  sink = λ e. absurd (omega arith);
  store = λ e. absurd (omega arith);
  log = λ e. (log refl, stops);
  memory = λ e. absurd (omega arith);
  cut = λ e. front_of_stop faults.Log pages es a b held stops;
  known = inr (inr (inr (inl refl)));
}
ran pages es (Err faults.Memory) a b m n held j k p q run whole agreed stops sink store log = record {
  lawful = lawful pages (journal pages es) run;
  whole = λ e. absurd (omega arith);
  sink = λ e. absurd (omega arith);
  store = λ e. absurd (omega arith);
  log = λ e. absurd (omega arith);
  memory = λ e. stops;
  cut = λ e. front_of_stop faults.Memory pages es a b held stops;
  known = inr (inr (inr (inr refl)));
}

-- nothing was done for want of memory
pub unmade : (pages : ℕ) (es : List Event) (a : Option (List ℕ)) (m : ℕ) (held : Held) (k n : ℕ) → IsRun pages (journal pages es) → IsBlank held
    → Ends pages (Runs es) 8 a a m m held k k n n
unmade pages es a m held k n run blank = record {
  lawful = lawful pages (journal pages es) run;
  whole = λ e. absurd (omega arith);
  sink = λ e. absurd (omega arith);
  store = λ e. absurd (omega arith);
  log = λ e. absurd (omega arith);
  memory = λ e. inl (stops_at_once pages es a held blank);
  cut = λ e. (text (journal pages es), took_none a (text (journal pages es)));
  known = inr (inr (inr (inr refl)));
}

-- The input was read and judged

-- a status that says that no fault ended the run
abbrev IsWholeStatus : ℕ → Type 0
IsWholeStatus s = (s ≡ 0) ⊎ ((s ≡ 2) ⊎ (s ≡ 3))

whole_status : (input : Input) → IsWholeStatus (status_of input)
whole_status (Runs es) = inl refl
whole_status (Refused (refusals.Faulty f)) = inr (inl refl)
whole_status (Refused refusals.TooLong) = inr (inr refl)
whole_status (Refused refusals.TooManyEvents) = inr (inr refl)
whole_status (Refused refusals.TooManyFiles) = inr (inr refl)
whole_status (Refused refusals.TooManyDirs) = inr (inr refl)

-- the status is the one of a whole run, or one of a run that stopped
abbrev Known : ℕ → ℕ → Type 0
Known k s = (s ≡ k) ⊎ IsStopStatus s

no_fault : (k s : ℕ) → Known k s → IsWholeStatus s → s ≡ k
no_fault k s (inl e) w = e
no_fault k s (inr e) (inl w) = absurd (no_stop s (omega arith) e)
no_fault k s (inr e) (inr (inl w)) = absurd (no_stop s (omega arith) e)
no_fault k s (inr e) (inr (inr w)) = absurd (no_stop s (omega arith) e)

not_too_long : (input : Input) (s : ℕ) → Known (status_of input) s → IsWholeStatus s → s < 3 → input ≢ Refused refusals.TooLong
not_too_long input s known whole small is =
    let here : s ≡ status_of input = no_fault (status_of input) s known whole in
    let three : status_of input ≡ 3 = ap status_of is in
    omega arith

not_read : (k s : ℕ) → IsWholeStatus k → Known k s → s ≡ 4 → ⊥
not_read k s (inl w) (inl e) f = omega arith
not_read k s (inr (inl w)) (inl e) f = omega arith
not_read k s (inr (inr w)) (inl e) f = omega arith
not_read k s w (inr e) f = no_stop s (omega arith) e

decides : (k s : ℕ) → Known k s → (s ≡ k) ⊎ IsFaultStatus s
decides k s (inl e) = inl e
decides k s (inr e) = inr (inr e)

knows : (k s : ℕ) → IsWholeStatus k → Known k s → (s ≡ 0) ⊎ ((s ≡ 2) ⊎ ((s ≡ 3) ⊎ IsFaultStatus s))
knows k s (inl w) (inl e) = inl (e ∙ w)
knows k s (inr (inl w)) (inl e) = inr (inl (e ∙ w))
knows k s (inr (inr w)) (inl e) = inr (inr (inl (e ∙ w)))
knows k s w (inr e) = inr (inr (inr (inr e)))

-- what holds of the input that was judged holds of the bytes that were left
of_judged : (left : Option (List ℕ)) (input : Input) (P : Input → Type 0) → IfSome left (λ b. input ≡ judged b) → P input → IfSome left (λ b. P (judged b))
of_judged None input P is p = tt
of_judged (Some b) input P is p = subst P is p

pub judged_and_ended : (pages status : ℕ) (input : Input) (left_old left_new taken_old taken_new : Option (List ℕ)) (s t m n : ℕ) (before held : Held)
    (j k p q : ℕ) → JudgesWhole left_old left_new input → Ends pages input status taken_old taken_new m n held j k p q
    → Served pages status
    (record { left = left_old; source_faults = s; taken = taken_old; sink_faults = m; held = before; store_faults = j; log_faults = p })
    (record { left = left_new; source_faults = t; taken = taken_new; sink_faults = n; held = held; store_faults = k; log_faults = q })
judged_and_ended pages status input left_old left_new taken_old taken_new s t m n before held j k p q judge w = record {
  done = λ e.
      let same = no_fault (status_of input) status w.known (inl e) in (
        judge.read (not_too_long input status w.known (inl e) (omega arith)),
        of_judged left_old input (λ x. IsLawfulRun pages x × AgreesWith pages x held) judge.is (w.lawful, (w.whole same).1),
      );
  refused = λ e. judge.read (not_too_long input status w.known (inr (inl e)) (omega arith));
  ended = λ e.
      let same = no_fault (status_of input) status w.known e in
      of_judged left_old input (λ x. (status ≡ status_of x) × Appends taken_old taken_new (output pages x)) judge.is (same, (w.whole same).0);
  source = λ e. absurd (not_read (status_of input) status (whole_status input) w.known e);
  sink = λ e. ((w.sink e).0, of_judged left_old input (λ x. StopsInput faults.Sink pages x taken_old taken_new held) judge.is (w.sink e).1);
  store = λ e. ((w.store e).0, of_judged left_old input (λ x. StopsInput faults.Store pages x taken_old taken_new held) judge.is (w.store e).1);
  log = λ e. ((w.log e).0, of_judged left_old input (λ x. StopsInput faults.Log pages x taken_old taken_new held) judge.is (w.log e).1);
  memory = λ e. of_judged left_old input (λ x. StopsInput faults.Memory pages x taken_old taken_new held) judge.is (w.memory e);
  cut = λ e. of_judged left_old input (λ x. AppendsFront taken_old taken_new (output pages x)) judge.is (w.cut e);
  decided = of_judged left_old input (λ x. (status ≡ status_of x) ⊎ IsFaultStatus status) judge.is (decides (status_of input) status w.known);
  known = knows (status_of input) status (whole_status input) w.known;
}
