-- How a trim ends, from what was read and what was written.
use Rattle.std.proofs.Common.{◌≡◌, ◌≢◌, ◌∙◌, ap, subst, refl, ℕ, ◌<◌, ◌⊎◌, inl, inr, List, Option, Some, None, IfSome, arith}
use Rattle.std.specs.Io.KnownBytes.{Appends}
use Rattle.cs_ids.specs.Devices.{Rose}
use Rattle.cs_io.specs.Whole.{AppendsFront}
use Rattle.cs_io.specs.declared.whole.ReadFault.{ReadFault}
use Rattle.cs_io.specs.declared.whole.ReadFault.TheVariants as reading
use Rattle.cs_status.specs.declared.refusal.Refusal.TheVariants as refusals
use Rattle.cs_status.specs.Statuses.{read_status}
use Rattle.cs_status.specs.Writes.{Writes}
use Rattle.cs_status.proofs.Fronts.{took_nothing}
use Rattle.cs_status.proofs.Judging.{any_some, keeps_same}
use Rattle.cs_trim_run.specs.declared.input.Input.{Input}
use Rattle.cs_trim_run.specs.declared.input.Input.TheVariants.{Refused, Runs}
use Rattle.cs_trim_run.specs.Inputs.{JudgesWhole, judged, output, status_of}
use Rattle.cs_trim_run.specs.TrimServed.{IsFaultStatus, IsStopStatus, TrimServed}

-- Statuses

-- no fault ended the trim
abbrev IsWholeStatus : ℕ → Type 0
IsWholeStatus s = (s ≡ 0) ⊎ ((s ≡ 2) ⊎ (s ≡ 3))

small : (s : ℕ) → IsWholeStatus s → s < 4
small s (inl e) = omega arith
small s (inr (inl e)) = omega arith
small s (inr (inr e)) = omega arith

great : (s : ℕ) → IsStopStatus s → 4 < s
great s (inl e) = omega arith
great s (inr e) = omega arith

whole_status : (input : Input) → IsWholeStatus (status_of input)
whole_status (Runs es) = inl refl
whole_status (Refused (refusals.Faulty f)) = inr (inl refl)
whole_status (Refused refusals.TooLong) = inr (inr refl)
whole_status (Refused refusals.TooManyEvents) = inr (inr refl)
whole_status (Refused refusals.TooManyFiles) = inr (inr refl)
whole_status (Refused refusals.TooManyDirs) = inr (inr refl)

-- The input wasn't read

pub unread : (fault : ReadFault) (left_old left_new taken : Option (List ℕ)) (s t m : ℕ) → (fault ≡ reading.Failed → Rose s t)
    → TrimServed (read_status fault)
    (record { left = left_old; source_faults = s; taken = taken; sink_faults = m })
    (record { left = left_new; source_faults = t; taken = taken; sink_faults = m })
unread reading.Failed left_old left_new taken s t m rose = record {
  read = λ e. elim e [ inl zero ↦ absurd (omega arith) | inr two ↦ absurd (omega arith) ];
  ended = λ e. let below = small 4 e in absurd (omega arith);
  source = λ e. (rose refl, keeps_same taken);
  sink = λ e. absurd (omega arith);
  cut = λ e. let above = great 4 e in absurd (omega arith);
  decided = any_some left_old (λ b. (4 ≡ status_of (judged b)) ⊎ IsFaultStatus 4) (λ b. inr (inl refl));
  known = inr (inr (inr (inl refl)));
}
unread reading.Memory left_old left_new taken s t m rose = record {
  read = λ e. elim e [ inl zero ↦ absurd (omega arith) | inr two ↦ absurd (omega arith) ];
  ended = λ e. let below = small 8 e in absurd (omega arith);
  source = λ e. absurd (omega arith);
  sink = λ e. absurd (omega arith);
  cut = λ e. any_some left_old (λ b. AppendsFront taken taken (output (judged b))) (λ b. took_nothing taken (output (judged b)));
  decided = any_some left_old (λ b. (8 ≡ status_of (judged b)) ⊎ IsFaultStatus 8) (λ b. inr (inr (inr refl)));
  known = inr (inr (inr (inr (inr refl))));
}

-- The input was read and judged

-- the status is the one of a whole trim, or one of a trim that stopped
abbrev Known : ℕ → ℕ → Type 0
Known k s = (s ≡ k) ⊎ IsStopStatus s

no_fault : (k s : ℕ) → Known k s → IsWholeStatus s → s ≡ k
no_fault k s (inl e) w = e
no_fault k s (inr stop) w =
    let above = great s stop in
    let below = small s w in
    absurd (omega arith)

not_too_long : (input : Input) (s : ℕ) → Known (status_of input) s → (s ≡ 0) ⊎ (s ≡ 2) → input ≢ Refused refusals.TooLong
not_too_long input s known (inl zero) is =
    let here : s ≡ status_of input = no_fault (status_of input) s known (inl zero) in
    let three : status_of input ≡ 3 = ap status_of is in
    omega arith
not_too_long input s known (inr two) is =
    let here : s ≡ status_of input = no_fault (status_of input) s known (inr (inl two)) in
    let three : status_of input ≡ 3 = ap status_of is in
    omega arith

not_read : (k s : ℕ) → IsWholeStatus k → Known k s → s ≡ 4 → ⊥
not_read k s w (inl e) four = let below = small k w in omega arith
not_read k s w (inr stop) four = let above = great s stop in omega arith

decides : (k s : ℕ) → Known k s → (s ≡ k) ⊎ IsFaultStatus s
decides k s (inl e) = inl e
decides k s (inr stop) = inr (inr stop)

knows : (k s : ℕ) → IsWholeStatus k → Known k s → (s ≡ 0) ⊎ ((s ≡ 2) ⊎ ((s ≡ 3) ⊎ IsFaultStatus s))
knows k s (inl w) (inl e) = inl (e ∙ w)
knows k s (inr (inl w)) (inl e) = inr (inl (e ∙ w))
knows k s (inr (inr w)) (inl e) = inr (inr (inl (e ∙ w)))
knows k s w (inr stop) = inr (inr (inr (inr stop)))

-- what holds of the input that was judged holds of the bytes that were left
of_judged : (left : Option (List ℕ)) (input : Input) (P : Input → Type 0) → IfSome left (λ b. input ≡ judged b) → P input
    → IfSome left (λ b. P (judged b))
of_judged None input P is p = tt
of_judged (Some b) input P is p = subst P is p

pub judged_and_written : (status : ℕ) (input : Input) (left_old left_new taken_old taken_new : Option (List ℕ)) (s t m n : ℕ)
    → JudgesWhole left_old left_new input → Writes (status_of input) status (output input) taken_old taken_new m n
    → TrimServed status
    (record { left = left_old; source_faults = s; taken = taken_old; sink_faults = m })
    (record { left = left_new; source_faults = t; taken = taken_new; sink_faults = n })
judged_and_written status input left_old left_new taken_old taken_new s t m n judge w = record {
  read = λ e. judge.read (not_too_long input status w.known e);
  ended = λ e.
      let same = no_fault (status_of input) status w.known e in
      of_judged left_old input (λ x. (status ≡ status_of x) × Appends taken_old taken_new (output x)) judge.is (same, w.whole same);
  source = λ e. absurd (not_read (status_of input) status (whole_status input) w.known e);
  sink = w.sink;
  cut = λ e. of_judged left_old input (λ x. AppendsFront taken_old taken_new (output x)) judge.is (w.cut e);
  decided = of_judged left_old input (λ x. (status ≡ status_of x) ⊎ IsFaultStatus status) judge.is
      (decides (status_of input) status w.known);
  known = knows (status_of input) status (whole_status input) w.known;
}
