-- What a file's queue tells of the answers to events, and of the context and the metadata that the client sends.
use Rattle.std.proofs.Common.{◌≡◌, refl, sym, ap, ◌∙◌, subst, ℕ, ◌+◌, ◌≤◌, Bool, true, false, cond, not, ◌||◌, ◌&&◌, ◌==◌, List, [], ◌∷◌, count_by, length, arith}
use Rattle.std.proofs.lemmas.Bool.{eqb-true, false≢true, false_from_ne_true}
use Rattle.std.proofs.lemmas.List.Sums.{length-filter}
use Rattle.cs_bits.specs.Bits.{is_empty}
use Rattle.cs_ids.specs.declared.objects.FileMeta.{FileMeta}
use Rattle.cs_parts.specs.declared.references.Live.{Live}
use Rattle.cs_parts.specs.References.{is_writer_of}
use Rattle.cs_snapctx.specs.Context.{Context}
use Rattle.cs_capsnap.specs.declared.snap.CapSnap.{CapSnap as Snap}
use Rattle.cs_capsnap.specs.declared.snap.Ready.TheVariants as ready
use Rattle.cs_capsnap.specs.CapSnaps as kept
use Rattle.cs_capsnap.specs.Order.{IsInOrder}
use Rattle.cs_laws.specs.declared.answers.Answer.TheVariants as a
use Rattle.cs_laws.specs.declared.answers.Entry.{Entry}
use Rattle.cs_laws.specs.declared.messages.Message.TheVariants as messages
use Rattle.cs_laws.specs.Answers.{answer_flush_snaps_of}
use Rattle.cs_laws.specs.CapSnaps.{CapSnap, has_writer, is_open, is_writing, makes, queued_mode, writers}
use Rattle.cs_laws.specs.Context.{differs}
use Rattle.cs_laws.specs.Flushes.{flush_message, flush_snap, meta_upto}
use Rattle.cs_laws.specs.History.{context, dirty, live, queued, sent, writes}
use Rattle.cs_laws.specs.Image.{Write}
use Rattle.cs_laws.specs.Runs.{IsRun}
use Rattle.cs_theorems.specs.Order.{HasOlder}
use Rattle.cs_theorems.specs.Queues.{snaps, flush_answer}
use Rattle.cs_theorems.proofs.Course.{course_run}
use Rattle.cs_theorems.proofs.Listed.{Member}
use Rattle.cs_theorems.proofs.Opens.{open_has}
use Rattle.cs_theorems.proofs.Queues.{Queue, IsFirst, IsSeen, first_is, first_none, writing_is}
use Rattle.cs_theorems.proofs.QueueSteps.{all_queue}
use Rattle.cs_theorems.proofs.Tests.{any_some, any_true}

-- The queue is in order, and has flushes that were sent

pub queue_order : (p : ℕ) (h : List Entry) → IsRun p h → (f : ℕ) → IsInOrder (snaps h f)
queue_order p h run f = (all_queue p h run f).order

pub queue_tids : (p : ℕ) (h : List Entry) → IsRun p h → (f : ℕ) → kept.greatest_tid (snaps h f) ≤ length (sent h)
queue_tids p h run f = (all_queue p h run f).tids

-- Whether a cap snap is writing

pub queue_writing : (p : ℕ) (h : List Entry) → IsRun p h → (f : ℕ) → kept.is_writing (snaps h f) ≡ is_writing (live h) (queued h f)
queue_writing p h run f = writing_is (length (sent h)) (live h) (writes h f) (queued h f) (snaps h f) (all_queue p h run f)

-- a cap snap is open only while a writer lives
pub open_has_writer : (p : ℕ) (h : List Entry) → IsRun p h → (f : ℕ) (q : CapSnap) → Member q (queued h f) → is_open (live h) q ≡ true
    → has_writer f (live h) ≡ true
open_has_writer p h run f q m open_now =
    let old : HasOlder f q.follows (live h) = open_has f _ (live h) (queued h f) q ((course_run p h run).order.1 f).opens m open_now in
    any_true (is_writer_of f) (live h) old.0 old.1 old.2

pub writing_has_writer : (p : ℕ) (h : List Entry) → IsRun p h → (f : ℕ) → kept.is_writing (snaps h f) ≡ true → has_writer f (live h) ≡ true
writing_has_writer p h run f writing =
    let some = any_some (is_open (live h)) (queued h f) (sym (queue_writing p h run f) ∙ writing) in
    open_has_writer p h run f some.0 some.1 some.2

-- Writers are told by their count

counted : (b t : Bool) (r : Live) (rs : List Live) → (length rs == 0) ≡ not t → (length (cond b (r ∷ rs) rs) == 0) ≡ not (b || t)
counted true t r rs same =
    false_from_ne_true (length (r ∷ rs) == 0) (λ none. let is : length (r ∷ rs) ≡ 0 = eqb-true (length (r ∷ rs)) 0 none in absurd (omega arith))
counted false t r rs same = same

writers_counted : (f : ℕ) (rs : List Live) → (length (writers f rs) == 0) ≡ not (has_writer f rs)
writers_counted f [] = refl
writers_counted f (r ∷ rs) = counted (is_writer_of f r) (has_writer f rs) r (writers f rs) (writers_counted f rs)

pub count_none : (f : ℕ) (rs : List Live) → (count_by (is_writer_of f) rs == 0) ≡ not (has_writer f rs)
count_none f rs = ap (λ n. n == 0) (sym (length-filter (is_writer_of f) rs)) ∙ writers_counted f rs

-- whether a new context makes a cap snap
pub queue_makes : (p : ℕ) (h : List Entry) → IsRun p h → (f : ℕ) (new : Context)
    → makes f (context h f) new (live h) (dirty h f) (queued h f)
    ≡ ((differs (context h f) new && not (kept.is_writing (snaps h f))) && (has_writer f (live h) || not (is_empty (dirty h f))))
queue_makes p h run f new =
    ap (λ b. (differs (context h f) new && not b) && (has_writer f (live h) || not (is_empty (dirty h f)))) (sym (queue_writing p h run f))

-- The first unsent one

pub queue_first : (p : ℕ) (h : List Entry) → IsRun p h → (f : ℕ) (q : CapSnap) (qs : List CapSnap) → queued h f ≡ q ∷ qs
    → IsFirst (live h) (writes h f) q (snaps h f)
queue_first p h run f q qs is =
    first_is (length (sent h)) (live h) (writes h f) q qs (snaps h f)
    (subst (λ ps. Queue (length (sent h)) (live h) (writes h f) ps (snaps h f)) is (all_queue p h run f))

-- what is told ready, metadata and number, is the first unsent cap snap's
pub record IsReady (rs : List Live) (ws : List Write) (qs : List CapSnap) (found : FileMeta) (number : ℕ) : Type 0 where
  pub first : CapSnap
  pub rest : List CapSnap
  pub is : qs ≡ first ∷ rest
  pub closed : is_open rs first ≡ false
  pub follows : first.follows ≡ number
  pub meta : found ≡ meta_upto number (queued_mode qs) ws

answer_of : (n : ℕ) (rs : List Live) (ws : List Write) (qs : List CapSnap) (xs : List Snap) (count : ℕ) → Queue n rs ws qs xs
    → flush_answer (kept.readiness 0 (kept.first_unsent xs)) (count + 1) ≡ answer_flush_snaps_of rs count qs
answer_of n rs ws [] xs count i = rw (first_none n rs ws xs i) refl
answer_of n rs ws (q ∷ qs) xs count i =
    let first : IsFirst rs ws q xs = first_is n rs ws q qs xs i in
    rw first.is (at first.snap first.snap.writing (is_open rs q) first.seen.writing first.seen.follows)
  where
    at : (x : Snap) (w b : Bool) → w ≡ b → x.context.seq ≡ q.follows
        → flush_answer (cond w ready.Writing (ready.Ready x.meta x.context.seq)) (count + 1) ≡ cond b a.Writing (a.FlushSnap (count + 1) q.follows)
    at x true true same follows = refl
    at x false false same follows = rw follows refl
    at x true false same follows = absurd (false≢true (sym same))
    at x false true same follows = absurd (false≢true same)

ready_of : (n : ℕ) (rs : List Live) (ws : List Write) (qs : List CapSnap) (xs : List Snap) (found : FileMeta) (number : ℕ) → Queue n rs ws qs xs
    → kept.readiness 0 (kept.first_unsent xs) ≡ ready.Ready found number → IsReady rs ws qs found number
ready_of n rs ws [] xs found number i told = absurd (not_none (rw (first_none n rs ws xs i) at told))
  where
    not_none : ready.NoneQueued ≡ ready.Ready found number → ⊥
    not_none e = cc
ready_of n rs ws (q ∷ qs) xs found number i told =
    let first : IsFirst rs ws q xs = first_is n rs ws q qs xs i in
    at first.snap first.seen first.snap.writing refl (rw first.is at told)
  where
    at : (x : Snap) → IsSeen rs ws x q → (w : Bool) → x.writing ≡ w → cond w ready.Writing (ready.Ready x.meta x.context.seq) ≡ ready.Ready found number
        → IsReady rs ws (q ∷ qs) found number
    at x seen true writing told = absurd cc
    at x seen false done told =
        let same_meta : x.meta ≡ found = cc in
        let same_number : x.context.seq ≡ number = cc in
        let follows : q.follows ≡ number = sym seen.follows ∙ same_number in
        record {
          first = q;
          rest = qs;
          is = refl;
          closed = sym seen.writing ∙ done;
          follows = follows;
          meta = sym same_meta ∙ (seen.meta done ∙ ap (λ k. meta_upto k q.mode ws) follows);
        }

-- the answer to `flushsnaps` of a file that is known, as its queue tells it
pub queue_answer : (p : ℕ) (h : List Entry) → IsRun p h → (f count : ℕ)
    → flush_answer (kept.readiness 0 (kept.first_unsent (snaps h f))) (count + 1) ≡ answer_flush_snaps_of (live h) count (queued h f)
queue_answer p h run f count = answer_of (length (sent h)) (live h) (writes h f) (queued h f) (snaps h f) count (all_queue p h run f)

-- what the queue calls ready is what the definitions send
pub queue_ready : (p : ℕ) (h : List Entry) → IsRun p h → (f : ℕ) (found : FileMeta) (number : ℕ)
    → kept.readiness 0 (kept.first_unsent (snaps h f)) ≡ ready.Ready found number → IsReady (live h) (writes h f) (queued h f) found number
queue_ready p h run f found number told =
    ready_of (length (sent h)) (live h) (writes h f) (queued h f) (snaps h f) found number (all_queue p h run f) told

pub queue_message : (p : ℕ) (h : List Entry) → IsRun p h → (f tid : ℕ) (found : FileMeta) (number : ℕ)
    → kept.readiness 0 (kept.first_unsent (snaps h f)) ≡ ready.Ready found number
    → messages.FlushSnap f tid number found ≡ flush_message (flush_snap f tid number (queued_mode (queued h f)) (writes h f))
queue_message p h run f tid found number told = ap (λ m. messages.FlushSnap f tid number m) (queue_ready p h run f found number told).meta
