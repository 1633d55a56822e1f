-- A run, as far as it has come.
use Rattle.std.proofs.Common.{◌≡◌, ◌∙◌, refl, sym, ap, subst, ℕ, suc, ◌+◌, ◌≤◌, Bool, true, false, cond, List, [], ◌∷◌, ◌++◌, length, Option, append_assoc, append-nil, arith}
use Rattle.std.specs.Io.KnownBytes.{Appends}
use Rattle.cs_io.specs.Whole.{AppendsFront}
use Rattle.cs_io.proofs.Known.{appends_more}
use Rattle.cs_laws.specs.Journal.{end_line}
use Rattle.cs_status.proofs.Fronts.{behind_whole, front_whole, longer}
use Rattle.cs_trim.specs.Clones.{is_standing}
use Rattle.cs_trim.specs.Steps.{Step, removed, drawn, status}
use Rattle.cs_trim_script.specs.declared.answers.Answer.{Answer}
use Rattle.cs_trim_script.specs.declared.events.Event.{Event}
use Rattle.cs_trim_script.specs.declared.events.Event.TheVariants as events
use Rattle.cs_trim_script.specs.declared.run.TrimRun.{TrimRun}
use Rattle.cs_trim_script.specs.Journal.{Entry, after, answer, entries, header, line, lines, text, trim_journal, written}
use Rattle.cs_trim_script.specs.Runs.{Answers, RunsFor}

-- n events were done and these are left: the run stands for the steps of those that were, and the lines so far are written
pub record SoFar (all left : List Event) (n : ℕ) (run : TrimRun) (bytes : List ℕ) : Type 0 where
  pub steps : List Step
  pub runs : RunsFor steps run
  pub lines : bytes ++ lines (n + 1) (entries steps left) ≡ header ++ lines 1 (entries [] all)
  pub few_drawn : drawn steps ≤ n
  pub few_written : written steps ≤ n

drawn_by : (b : Bool) (s : ℕ) (h : List Step) → drawn (cond b (removed s ∷ h) h) ≤ drawn h + 1
drawn_by true s h = let one : drawn h + 1 ≤ drawn h + 1 = omega arith in one
drawn_by false s h = omega arith

drawn_after : (h : List Step) (e : Event) → drawn (after h e) ≤ drawn h + 1
drawn_after h events.Snap = let one : drawn h + 1 ≤ drawn h + 1 = omega arith in one
drawn_after h (events.RmSnap s) = drawn_by (is_standing (status h s)) s h
drawn_after h (events.Write b off bytes) = let none : drawn h ≤ drawn h + 1 = omega arith in none
drawn_after h events.Trim = let none : drawn h ≤ drawn h + 1 = omega arith in none
drawn_after h (events.Clones b) = omega arith
drawn_after h (events.Read b a off len) = omega arith

written_by : (b : Bool) (s : ℕ) (h : List Step) → written (cond b (removed s ∷ h) h) ≤ written h + 1
written_by true s h = let none : written h ≤ written h + 1 = omega arith in none
written_by false s h = omega arith

written_after : (h : List Step) (e : Event) → written (after h e) ≤ written h + 1
written_after h events.Snap = let none : written h ≤ written h + 1 = omega arith in none
written_after h (events.RmSnap s) = written_by (is_standing (status h s)) s h
written_after h (events.Write b off bytes) = let one : written h + 1 ≤ written h + 1 = omega arith in one
written_after h events.Trim = let none : written h ≤ written h + 1 = omega arith in none
written_after h (events.Clones b) = omega arith
written_after h (events.Read b a off len) = omega arith

-- one event more
steps_on : (all left rest : List Event) (e : Event) (n m : ℕ) (old new : TrimRun) (a : Answer) (bytes : List ℕ) → left ≡ e ∷ rest
    → m ≡ n + 1
    → SoFar all left n old bytes → Answers e old new a → SoFar all rest (n + 1) new (bytes ++ line m (record { event = e; answer = a }))
steps_on all left rest e n m old new a bytes is same so answered =
    let h = so.steps in
    let done = answered h so.runs in
    let x : Entry = record { event = e; answer = answer h e } in
    let behind : List ℕ = lines (n + 1 + 1) (entries (after h e) rest) in
    let before_it : bytes ++ (line (n + 1) x ++ behind) ≡ header ++ lines 1 (entries [] all) =
    sym (ap (λ es. bytes ++ lines (n + 1) (entries h es)) is) ∙ so.lines in
    let line_is : bytes ++ line m (record { event = e; answer = a }) ≡ bytes ++ line (n + 1) x =
    ap (λ k. bytes ++ line k (record { event = e; answer = a })) same
    ∙ ap (λ y. bytes ++ line (n + 1) (record { event = e; answer = y })) done.0 in
    record {
      steps = after h e;
      runs = done.1;
      lines = ap (λ xs. xs ++ behind) line_is ∙ (append_assoc bytes (line (n + 1) x) behind ∙ before_it);
      few_drawn = omega (arith, drawn_after h e, so.few_drawn);
      few_written = omega (arith, written_after h e, so.few_written);
    }

length_entries : (h : List Step) (es : List Event) → length (entries h es) ≡ length es
length_entries h [] = refl
length_entries h (e ∷ es) = ap suc (length_entries (after h e) es)

-- no event is left, and the end line comes
ends : (all : List Event) (n : ℕ) (run : TrimRun) (bytes : List ℕ) → SoFar all [] n run bytes
    → text (trim_journal all) ≡ bytes ++ end_line (length all)
ends all n run bytes so =
    let done : bytes ≡ header ++ lines 1 (entries [] all) = sym (append-nil bytes) ∙ so.lines in
    let count : end_line (length (entries [] all)) ≡ end_line (length all) = ap end_line (length_entries [] all) in
    sym (append_assoc header (lines 1 (entries [] all)) (end_line (length (entries [] all))))
    ∙ (ap (λ xs. xs ++ end_line (length (entries [] all))) (sym done) ∙ ap (λ xs. bytes ++ xs) count)

-- the text begins with the lines so far
begins : (all left : List Event) (n : ℕ) (run : TrimRun) (bytes : List ℕ) → SoFar all left n run bytes
    → (behind : List ℕ) × (text (trim_journal all) ≡ bytes ++ behind)
begins all left n run bytes so =
    let rest : List ℕ = lines (n + 1) (entries so.steps left) in
    let end : List ℕ = end_line (length (entries [] all)) in (
      rest ++ end,
      sym (append_assoc header (lines 1 (entries [] all)) end)
          ∙ (ap (λ xs. xs ++ end) (sym so.lines) ∙ append_assoc bytes rest end),
    )

-- What the sink took

-- n events were done, and the sink took their lines
pub record Written (old now : Option (List ℕ)) (all left : List Event) (n : ℕ) (run : TrimRun) : Type 0 where
  pub bytes : List ℕ
  pub taken : Appends old now bytes
  pub so_far : SoFar all left n run bytes

-- the header alone
pub starts : (old now : Option (List ℕ)) (es : List Event) (run : TrimRun) → Appends old now header → RunsFor [] run
    → Written old now es es 0 run
starts old now es run taken runs = record {
  bytes = header;
  taken = taken;
  so_far = record { steps = []; runs = runs; lines = refl; few_drawn = omega arith; few_written = omega arith };
}

-- the line of one event more
pub goes_on : (old mid new : Option (List ℕ)) (all left rest : List Event) (e : Event) (n m : ℕ) (before run : TrimRun) (a : Answer)
    → left ≡ e ∷ rest
    → m ≡ n + 1 → Written old mid all left n before → Answers e before run a → Appends mid new (line m (record { event = e; answer = a }))
    → Written old new all rest (n + 1) run
goes_on old mid new all left rest e n m before run a is number w answered taken =
    let x : List ℕ = line m (record { event = e; answer = a }) in
    record {
      bytes = w.bytes ++ x;
      taken = appends_more old mid new w.bytes x w.taken taken;
      so_far = steps_on all left rest e n m before run a w.bytes is number w.so_far answered;
    }

-- Where it stopped the sink took a front of the text.

-- in the header
pub stops_in_header : (old new : Option (List ℕ)) (all : List Event) → AppendsFront old new header
    → AppendsFront old new (text (trim_journal all))
stops_in_header old new all t =
    longer old new header (lines 1 (trim_journal all) ++ end_line (length (trim_journal all))) (text (trim_journal all)) refl t

-- in an event
pub stops_in_event : (old now : Option (List ℕ)) (all left : List Event) (n : ℕ) (run : TrimRun) → Written old now all left n run
    → AppendsFront old now (text (trim_journal all))
stops_in_event old now all left n run w =
    let rest = begins all left n run w.bytes w.so_far in
    subst (AppendsFront old now) (sym rest.1) (front_whole old now w.bytes rest.0 w.taken)

-- in the line of an event
pub stops_in_line : (old mid new : Option (List ℕ)) (all left rest : List Event) (e : Event) (n m : ℕ) (before run : TrimRun) (a : Answer)
    → left ≡ e ∷ rest
    → m ≡ n + 1 → Written old mid all left n before → Answers e before run a
    → AppendsFront mid new (line m (record { event = e; answer = a }))
    → AppendsFront old new (text (trim_journal all))
stops_in_line old mid new all left rest e n m before run a is number w answered taken =
    let x : List ℕ = line m (record { event = e; answer = a }) in
    let more = begins all rest (n + 1) run (w.bytes ++ x)
    (steps_on all left rest e n m before run a w.bytes is number w.so_far answered) in
    longer old new (w.bytes ++ x) more.0 (text (trim_journal all)) more.1 (behind_whole old mid new w.bytes x w.taken taken)

-- in the end line
pub stops_in_end : (old mid new : Option (List ℕ)) (all left : List Event) (n count : ℕ) (run : TrimRun) → left ≡ [] → count ≡ length all
    → Written old mid all left n run → AppendsFront mid new (end_line count) → AppendsFront old new (text (trim_journal all))
stops_in_end old mid new all [] n count run none same w taken =
    let end = subst (λ k. AppendsFront mid new (end_line k)) same taken in
    subst (AppendsFront old new) (sym (ends all n run w.bytes w.so_far))
    (behind_whole old mid new w.bytes (end_line (length all)) w.taken end)
stops_in_end old mid new all (e ∷ left) n count run none same w taken = absurd (cc)

-- all was written
pub writes_all : (old mid new : Option (List ℕ)) (all left : List Event) (n count : ℕ) (run : TrimRun) → left ≡ [] → count ≡ length all
    → Written old mid all left n run → Appends mid new (end_line count) → Appends old new (text (trim_journal all))
writes_all old mid new all [] n count run none same w taken =
    let end = subst (λ k. Appends mid new (end_line k)) same taken in
    subst (Appends old new) (sym (ends all n run w.bytes w.so_far)) (appends_more old mid new w.bytes (end_line (length all)) w.taken end)
writes_all old mid new all (e ∷ left) n count run none same w taken = absurd (cc)
