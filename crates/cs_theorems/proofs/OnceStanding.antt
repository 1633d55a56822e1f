-- The first law of flushes: those of a file stand in the order of their numbers, and each that was acked once.
use Rattle.std.proofs.Common.{◌≡◌, refl, sym, ℕ, Bool, true, false, cond, not, ◌==◌, ◌&&◌, List, [], ◌∷◌, ◌++◌, subst, ⊎_elim}
use Rattle.std.specs.List.{list_any}
use Rattle.std.proofs.lemmas.Bool.{and_from, and_parts, or_cases, or_left, or_right}
use Rattle.cs_laws.specs.declared.events.Event.{Event}
use Rattle.cs_laws.specs.declared.events.Event.TheVariants as e
use Rattle.cs_laws.specs.declared.answers.Answer.{Answer}
use Rattle.cs_laws.specs.declared.answers.Answer.TheVariants as a
use Rattle.cs_laws.specs.declared.answers.Entry.{Entry}
use Rattle.cs_laws.specs.Flushes.{Flush, acked, acked_then, is_later, sent_then}
use Rattle.cs_laws.specs.History.{present, sent, snap, stand}
use Rattle.cs_laws.specs.Owed.{is_acked}
use Rattle.cs_laws.specs.Laws.{AckedStandOnce, FlushesRise, FlushesStandOnce, InEveryPrefix, tids}
use Rattle.cs_laws.specs.Runs.{IsRun}
use Rattle.cs_theorems.proofs.Runs.{in_every_prefix}
use Rattle.cs_theorems.proofs.Listed.{Member, member_left}
use Rattle.cs_theorems.proofs.Numbers.{times_once}
use Rattle.cs_theorems.specs.Flushes.{FlushesReplay}
use Rattle.cs_theorems.proofs.Acks.{AllAcked, run_acked}
use Rattle.cs_theorems.proofs.FlushReplays.{flushes_rise, run_replay}
use Rattle.cs_theorems.proofs.Retired.{retired_stands}
use Rattle.cs_theorems.proofs.Standing.{record_member}
use Rattle.cs_theorems.proofs.Tests.{any_some, any_true}

still : (b was : Bool) → was ≡ true → cond b true was ≡ true
still true was is = refl
still false was is = is

-- what was acked stays so
kept : (x : Event) (y : Answer) (f tid : ℕ) (was : Bool) → was ≡ true → acked_then x y f tid was ≡ true
kept e.ToClient (a.FlushAck g t) f tid was is = still ((g == f) && (t == tid)) was is
kept _ _ f tid was is = is

-- so does what was sent
sent_on : (x : Event) (y : Answer) (now : ℕ → ℕ → Flush) (old : ℕ → ℕ → ℕ → Flush) (xs : List Flush) (z : Flush) → Member z xs
    → Member z (sent_then x y now old xs)
sent_on (e.Flush f) (a.Flush tid) now old xs z there = member_left z xs _ there
sent_on (e.FlushSnaps f) (a.FlushSnap tid follows) now old xs z there = member_left z xs _ there
sent_on _ _ now old xs z there = there

sent_since : (new before : List Entry) (z : Flush) → Member z (sent before) → Member z (sent (new ++ before))
sent_since [] before z there = there
sent_since (x ∷ new) before z there =
    sent_on x.event x.answer (present (new ++ before)) (snap (new ++ before)) (sent (new ++ before)) z (sent_since new before z there)

-- and what is acknowledged by a later one
retired_on : (x : Entry) (h : List Entry) (z : Flush) → is_acked h z ≡ true → is_acked (x ∷ h) z ≡ true
retired_on x h z was =
    ⊎_elim
    (λ own. or_left (acked (x ∷ h) z.file z.tid) _ (kept x.event x.answer z.file z.tid (acked h z.file z.tid) own))
    (λ later.
    let parts = and_parts (not z.snap) (list_any (λ y. is_later z y && acked h y.file y.tid) (sent h)) later in
    let y = any_some (λ y. is_later z y && acked h y.file y.tid) (sent h) parts.1 in
    let both = and_parts (is_later z y.0) (acked h y.0.file y.0.tid) y.2 in
    or_right (acked (x ∷ h) z.file z.tid) _
    (and_from (not z.snap) (list_any (λ y. is_later z y && acked (x ∷ h) y.file y.tid) (sent (x ∷ h))) parts.0
    (any_true (λ y. is_later z y && acked (x ∷ h) y.file y.tid) (sent (x ∷ h)) y.0
    (sent_on x.event x.answer (present h) (snap h) (sent h) y.0 y.1)
    (and_from (is_later z y.0) (acked (x ∷ h) y.0.file y.0.tid) both.0
    (kept x.event x.answer y.0.file y.0.tid (acked h y.0.file y.0.tid) both.1)))))
    (or_cases (acked h z.file z.tid) (not z.snap && list_any (λ y. is_later z y && acked h y.file y.tid) (sent h)) was)

retired_since : (new before : List Entry) (z : Flush) → is_acked before z ≡ true → is_acked (new ++ before) z ≡ true
retired_since [] before z was = was
retired_since (x ∷ new) before z was = retired_on x (new ++ before) z (retired_since new before z was)

acked_once : (h : List Entry) → FlushesReplay h → AllAcked h → AckedStandOnce h h
acked_once h i acks x there is =
    times_once 0 x.tid (tids x.file (stand h)) (flushes_rise h i x.file) (record_member x.file x (stand h) refl (retired_stands h i acks x there is))

run_acked_once : (p : ℕ) (h : List Entry) → IsRun p h → AckedStandOnce h h
run_acked_once p h run = acked_once h (run_replay p h run) (run_acked p h run)

-- what was acknowledged before is acknowledged
pub once_later : (p : ℕ) (before new : List Entry) → IsRun p (new ++ before) → AckedStandOnce before (new ++ before)
once_later p before new run x there was =
    run_acked_once p (new ++ before) run x (sent_since new before x there) (retired_since new before x was)

pub flushes_once : (p : ℕ) (h : List Entry) → IsRun p h → FlushesStandOnce h
flushes_once p h run = record {
  rise = in_every_prefix p FlushesRise (λ g is. flushes_rise g (run_replay p g is)) h run;
  once = in_every_prefix p (λ later. InEveryPrefix (λ before. AckedStandOnce before later) later) (λ g run_g before new is.
      subst (λ k. AckedStandOnce before k) (sym is) (once_later p before new (subst (λ k. IsRun p k) is run_g))) h run;
}
