-- Where a state of a file isn't owed, each flush of the file that is of the time before the state stands.
use Rattle.std.proofs.Common.{◌≡◌, ℕ, true, false, not, ◌==◌, ◌&&◌, ◌||◌, List, ⊎_elim}
use Rattle.std.specs.List.{list_any}
use Rattle.std.proofs.lemmas.Bool.{and_cases, and_from, both_ways, eq-eqb, not-false, or_parts}
use Rattle.cs_laws.specs.declared.answers.Entry.{Entry}
use Rattle.cs_laws.specs.declared.objects.At.{At}
use Rattle.cs_laws.specs.ClientKnows.{client_knows}
use Rattle.cs_laws.specs.Flushes.{Flush, flush_record}
use Rattle.cs_laws.specs.History.{context, dirty, live, queued, sent, stand}
use Rattle.cs_laws.specs.Owed.{is_acked, is_changed, is_unacked, is_untold, is_written, is_metadata_owed}
use Rattle.cs_laws.specs.Shown.{is_before}
use Rattle.cs_theorems.proofs.Footing.{Footing}
use Rattle.cs_theorems.proofs.Listed.{Each, Member}
use Rattle.cs_theorems.proofs.Retired.{retired_stands}
use Rattle.cs_theorems.proofs.Tests.{any_none}

-- The tests

pub record Settled (h : List Entry) (f : ℕ) (a : At) : Type 0 where
  pub told : is_untold a (context h f).seq ≡ false
  pub clean : is_changed a (dirty h f) ≡ false
  pub unqueued : Each (λ x. is_before a x.follows ≡ false) (queued h f)
  pub acked : Each (λ x. is_unacked h a f x ≡ false) (sent h)

pub settled : (h : List Entry) (f : ℕ) (a : At) → is_metadata_owed h f a ≡ false → Settled h f a
settled h f a free =
    let flushes = list_any (λ x. is_before a x.follows) (queued h f) || list_any (is_unacked h a f) (sent h) in
    let known = or_parts (not (client_knows h f))
    (is_untold a (context h f).seq || (is_written a f (live h) || (is_changed a (dirty h f) || flushes))) free in
    let told = or_parts (is_untold a (context h f).seq) (is_written a f (live h) || (is_changed a (dirty h f) || flushes)) known.1 in
    let written = or_parts (is_written a f (live h)) (is_changed a (dirty h f) || flushes) told.1 in
    let clean = or_parts (is_changed a (dirty h f)) flushes written.1 in
    let sent_all = or_parts (list_any (λ x. is_before a x.follows) (queued h f)) (list_any (is_unacked h a f) (sent h)) clean.1 in
    record {
      told = told.0;
      clean = clean.0;
      unqueued = any_none (λ x. is_before a x.follows) (queued h f) sent_all.0;
      acked = any_none (is_unacked h a f) (sent h) sent_all.1;
    }

was_acked : (h : List Entry) (f : ℕ) (a : At) (x : Flush) → is_unacked h a f x ≡ false → x.file ≡ f → is_before a x.follows ≡ true
    → is_acked h x ≡ true
was_acked h f a x free of_f before =
    ⊎_elim
    (λ other. absurd (both_ways ((x.file == f) && is_before a x.follows) other
    (and_from (x.file == f) (is_before a x.follows) (eq-eqb x.file f of_f) before)))
    (λ was. not-false (is_acked h x) was)
    (and_cases ((x.file == f) && is_before a x.follows) (not (is_acked h x)) free)

-- each flush of the time before the state stands
pub sent_stands : (h : List Entry) → Footing h → (f : ℕ) (a : At) → Settled h f a → (x : Flush) → Member x (sent h) → x.file ≡ f
    → is_before a x.follows ≡ true → Member (flush_record x) (stand h)
sent_stands h i f a free x there of_f before =
    retired_stands h i.replay i.acked x there (was_acked h f a x (free.acked x there) of_f before)
