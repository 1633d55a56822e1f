-- What a file's queue and its flushes tell of the states that the client owes.
use Rattle.std.proofs.Common.{◌≡◌, refl, sym, ap, ◌∙◌, subst, ℕ, ◌<◌, ◌≤◌, Bool, true, false, not, ◌||◌, ◌&&◌, ◌==◌, nat_lt, List, [], ◌∷◌, count_by, Option, Some, None, is_none, inl, inr, ⊎_elim, arith}
use Rattle.std.specs.Cmp.{both_ways as same_test}
use Rattle.std.specs.List.{list_any}
use Rattle.std.proofs.lemmas.Bool.{and_from, and_parts, cases_Bool, cases_lt, eq-eqb, eqb-true, lt-ltb, ltb-true, not-true, or_cases, or_left, or_right, false≢true, both_ways}
use Rattle.std.proofs.Math.Nat.{eq-or-lt_of_le}
use Rattle.cs_bits.specs.Bits.{is_empty}
use Rattle.cs_parts.specs.declared.references.Live.{Live}
use Rattle.cs_parts.specs.References.{is_writer_of}
use Rattle.cs_capsnap.specs.declared.snap.CapSnap.{CapSnap as Snap}
use Rattle.cs_capsnap.specs.CapSnaps as kept
use Rattle.cs_flush.specs.declared.sent.Sent.{Sent}
use Rattle.cs_laws.specs.declared.answers.Entry.{Entry}
use Rattle.cs_laws.specs.declared.objects.At.{At}
use Rattle.cs_laws.specs.declared.objects.At.TheVariants as at
use Rattle.cs_laws.specs.CapSnaps.{CapSnap, has_writer}
use Rattle.cs_laws.specs.Flushes.{Flush, acked, is_later}
use Rattle.cs_laws.specs.History.{context, dirty, live, queued, sent, writes}
use Rattle.cs_laws.specs.Image.{Write}
use Rattle.cs_laws.specs.Owed.{is_acked, is_unacked, is_written, owed}
use Rattle.cs_laws.specs.Shown.{is_before}
use Rattle.cs_laws.specs.Runs.{IsRun}
use Rattle.cs_laws.specs.ClientKnows.{client_knows}
use Rattle.cs_theorems.specs.Queues.{snaps}
use Rattle.cs_theorems.specs.Unacked.{sent_of, unacked}
use Rattle.cs_theorems.proofs.Course.{course_run}
use Rattle.cs_theorems.proofs.Listed.{Member}
use Rattle.cs_theorems.proofs.QueueAnswers.{count_none}
use Rattle.cs_theorems.proofs.Queues.{Seen}
use Rattle.cs_theorems.proofs.QueueSteps.{all_queue}
use Rattle.cs_theorems.proofs.Tests.{any_some, any_true, filter_each, filter_has}
use Rattle.cs_theorems.proofs.UnackedSteps.{kept_owed, owed_kept}
use Rattle.cs_theorems.proofs.Unsent.{unsent}
use Rattle.cs_theorems.proofs.Waiting.{InQueue}
use Rattle.cs_theorems.proofs.WaitingSteps.{all_waiting}

-- Each unsent cap snap, and each flush of a cap snap that was sent and isn't acknowledged, is a cap snap of the queue, and none
-- else is.

-- one of the queue follows this number, and was sent, or not
abbrev Follows : Bool → ℕ → List Snap → Type 0
Follows b s xs = (y : Snap) × Member y xs × (kept.is_unsent y ≡ b) × (y.context.seq ≡ s)

seen_has : (rs : List Live) (ws : List Write) (ys : List Snap) (qs : List CapSnap) (q : CapSnap) → Seen rs ws ys qs → Member q qs
    → (y : Snap) × Member y ys × (y.context.seq ≡ q.follows)
seen_has rs ws ys [] q i m = absurd m
seen_has rs ws [] (r ∷ qs) q i m = absurd i
seen_has rs ws (y ∷ ys) (r ∷ qs) q i (inl same) = (y, inl refl, subst (λ z. y.context.seq ≡ z.follows) same i.0.follows)
seen_has rs ws (y ∷ ys) (r ∷ qs) q i (inr m) = let t = seen_has rs ws ys qs q i.1 m in (t.0, inr t.1, t.2)

seen_of : (rs : List Live) (ws : List Write) (ys : List Snap) (qs : List CapSnap) (y : Snap) → Seen rs ws ys qs → Member y ys
    → (q : CapSnap) × Member q qs × (q.follows ≡ y.context.seq)
seen_of rs ws [] qs y i m = absurd m
seen_of rs ws (x ∷ ys) [] y i m = absurd i
seen_of rs ws (x ∷ ys) (q ∷ qs) y i (inl same) = (q, inl refl, sym (subst (λ z. z.context.seq ≡ q.follows) same i.0.follows))
seen_of rs ws (x ∷ ys) (q ∷ qs) y i (inr m) = let t = seen_of rs ws ys qs y i.1 m in (t.0, inr t.1, t.2)

queued_follows : (p : ℕ) (h : List Entry) → IsRun p h → (f : ℕ) (q : CapSnap) → Member q (queued h f) → Follows true q.follows (snaps h f)
queued_follows p h run f q m =
    let t = seen_has (live h) (writes h f) (unsent (snaps h f)) (queued h f) q (all_queue p h run f).seen m in
    let own = filter_each kept.is_unsent (snaps h f) t.0 t.1 in
    (t.0, own.1, own.0, t.2)

follows_queued : (p : ℕ) (h : List Entry) → IsRun p h → (f s : ℕ) → Follows true s (snaps h f) → (q : CapSnap) × Member q (queued h f) × (q.follows ≡ s)
follows_queued p h run f s (y, m, new, is) =
    let t = seen_of (live h) (writes h f) (unsent (snaps h f)) (queued h f) y (all_queue p h run f).seen (filter_has kept.is_unsent (snaps h f) y m new) in
    (t.0, t.1, t.2 ∙ is)

-- the flush of a cap snap of a file that isn't acknowledged
abbrev Unacked : List Entry → ℕ → ℕ → Type 0
Unacked h f s = (x : Flush) × Member x (sent h) × (x.file ≡ f) × (x.snap ≡ true) × (acked h f x.tid ≡ false) × (x.follows ≡ s)

some_sent : (y : Snap) (t : ℕ) → y.tid ≡ Some t → kept.is_unsent y ≡ false
some_sent y t is = ap is_none is

sent_some : (o : Option ℕ) → is_none o ≡ false → (t : ℕ) × (o ≡ Some t)
sent_some None e = absurd (false≢true (sym e))
sent_some (Some t) e = (t, refl)

unacked_follows : (p : ℕ) (h : List Entry) → IsRun p h → (f s : ℕ) → Unacked h f s → Follows false s (snaps h f)
unacked_follows p h run f s (x, m, own, snap, free, is) =
    let j : InQueue x (snaps h f) = (all_waiting p h run f).sent x m own snap free in
    (j.snap, j.there, some_sent j.snap x.tid j.tid, j.follows ∙ is)

follows_unacked : (p : ℕ) (h : List Entry) → IsRun p h → (f s : ℕ) → Follows false s (snaps h f) → Unacked h f s
follows_unacked p h run f s (y, m, was, is) =
    let t = sent_some y.tid was in
    let j = (all_waiting p h run f).queued y m t.0 t.1 in
    (j.0.flush, j.0.there, j.0.file, j.0.snap, subst (λ n. acked h f n ≡ false) (sym j.0.tid) j.1, j.0.follows ∙ is)

-- One of them of the time before the state

below : (p : Snap → Bool) (b : Bool) (s : ℕ) (xs : List Snap) → ((y : Snap) → y.context.seq ≡ s → p y ≡ true) → Follows b s xs → list_any p xs ≡ true
below p b s xs passes (y, m, was, is) = any_true p xs y m (passes y is)

before_same : (a : At) (n s : ℕ) → n ≡ s → is_before a s ≡ true → is_before a n ≡ true
before_same a n s is before = subst (λ k. is_before a k ≡ true) (sym is) before

-- the flush of a cap snap is acknowledged by its own number alone
snap_acked : (h : List Entry) (x : Flush) → x.snap ≡ true → is_acked h x ≡ acked h x.file x.tid
snap_acked h x snap = alone x.snap snap (acked h x.file x.tid) (list_any (λ y. is_later x y && acked h y.file y.tid) (sent h))
  where
    alone : (b : Bool) → b ≡ true → (own later : Bool) → (own || (not b && later)) ≡ own
    alone true is true later = refl
    alone true is false later = refl
    alone false is own later = absurd (false≢true is)

-- an unsent cap snap, or a flush that isn't acknowledged, is of the time before the state
abbrev Waits : List Entry → At → ℕ → Bool
Waits h a f = list_any (λ x. is_before a x.follows) (queued h f) || list_any (is_unacked h a f) (sent h)

-- one of the queue is, or one of the flushes that the client keeps
abbrev Keeps : List Entry → At → ℕ → Bool
Keeps h a f = list_any (λ (y : Snap). is_before a y.context.seq) (snaps h f) || list_any (λ (u : Sent). is_before a u.follows) (unacked h f)

sent_waits : (p : ℕ) (h : List Entry) → IsRun p h → (f : ℕ) (a : At) (x : Flush) → Member x (sent h) → x.file ≡ f → is_before a x.follows ≡ true
    → is_acked h x ≡ false → Keeps h a f ≡ true
sent_waits p h run f a x there own before free =
    ⊎_elim
    (λ snap. let alone : acked h f x.tid ≡ false = subst (λ k. acked h k x.tid ≡ false) own (sym (snap_acked h x snap) ∙ free) in
    or_left _ _ (below (λ y. is_before a y.context.seq) false x.follows (snaps h f) (λ y is. before_same a y.context.seq x.follows is before)
    (unacked_follows p h run f x.follows (x, there, own, snap, alone, refl))))
    (λ head. or_right _ _ (any_true (λ (u : Sent). is_before a u.follows) (unacked h f) (sent_of x)
    (owed_kept p h run f x (record { there = there; file = own; head = head; free = free })) before))
    (cases_Bool x.snap)

waits_to : (p : ℕ) (h : List Entry) → IsRun p h → (f : ℕ) (a : At) → Waits h a f ≡ true → Keeps h a f ≡ true
waits_to p h run f a waits =
    ⊎_elim
    (λ some. let t = any_some (λ (x : CapSnap). is_before a x.follows) (queued h f) some in
    or_left _ _ (below (λ y. is_before a y.context.seq) true t.0.follows (snaps h f) (λ y is. before_same a y.context.seq t.0.follows is t.2)
    (queued_follows p h run f t.0 t.1)))
    (λ some. let t = any_some (is_unacked h a f) (sent h) some in
    let parts = and_parts ((t.0.file == f) && is_before a t.0.follows) (not (is_acked h t.0)) t.2 in
    let own = and_parts (t.0.file == f) (is_before a t.0.follows) parts.0 in
    sent_waits p h run f a t.0 t.1 (eqb-true t.0.file f own.0) own.1 (not-true (is_acked h t.0) parts.1))
    (or_cases (list_any (λ (x : CapSnap). is_before a x.follows) (queued h f)) (list_any (is_unacked h a f) (sent h)) waits)

unacked_waits : (h : List Entry) (f : ℕ) (a : At) (x : Flush) → Member x (sent h) → x.file ≡ f → is_before a x.follows ≡ true → is_acked h x ≡ false
    → Waits h a f ≡ true
unacked_waits h f a x there own before free =
    or_right _ _ (any_true (is_unacked h a f) (sent h) x there
    (and_from ((x.file == f) && is_before a x.follows) (not (is_acked h x))
    (and_from (x.file == f) (is_before a x.follows) (eq-eqb x.file f own) before) (ap not free)))

waits_from : (p : ℕ) (h : List Entry) → IsRun p h → (f : ℕ) (a : At) → Keeps h a f ≡ true → Waits h a f ≡ true
waits_from p h run f a keeps =
    ⊎_elim
    (λ some. let t = any_some (λ (y : Snap). is_before a y.context.seq) (snaps h f) some in
    ⊎_elim
    (λ new. let q = follows_queued p h run f t.0.context.seq (t.0, t.1, new, refl) in
    or_left _ _ (any_true (λ (x : CapSnap). is_before a x.follows) (queued h f) q.0 q.1 (before_same a q.0.follows t.0.context.seq q.2 t.2)))
    (λ was. let x = follows_unacked p h run f t.0.context.seq (t.0, t.1, was, refl) in
    let free : acked h x.0.file x.0.tid ≡ false = subst (λ k. acked h k x.0.tid ≡ false) (sym x.2) x.4 in
    unacked_waits h f a x.0 x.1 x.2 (before_same a x.0.follows t.0.context.seq x.5 t.2) (snap_acked h x.0 x.3 ∙ free))
    (cases_Bool (kept.is_unsent t.0)))
    (λ some. let t = any_some (λ (u : Sent). is_before a u.follows) (unacked h f) some in
    let x = kept_owed p h run f t.0 t.1 in
    unacked_waits h f a x.0 x.1.there x.1.file (before_same a x.0.follows t.0.follows (ap (λ (u : Sent). u.follows) x.2) t.2) x.1.free)
    (or_cases (list_any (λ (y : Snap). is_before a y.context.seq) (snaps h f)) (list_any (λ (u : Sent). is_before a u.follows) (unacked h f)) keeps)

-- what waits is what the client keeps
waits_is : (p : ℕ) (h : List Entry) → IsRun p h → (f : ℕ) (a : At) → Waits h a f ≡ Keeps h a f
waits_is p h run f a = same_test (Waits h a f) (Keeps h a f) (waits_to p h run f a) (waits_from p h run f a)

-- A snapshot

-- a writer that is older than the snapshot waits for a cap snap, or the snapshot isn't told
written_waits : (p : ℕ) (h : List Entry) → IsRun p h → (f s : ℕ) → is_written (at.Snap s) f (live h) ≡ true
    → (nat_lt (context h f).seq s || kept.has_unacked_below s (snaps h f)) ≡ true
written_waits p h run f s written =
    let t = any_some (λ (r : Live). is_writer_of f r && nat_lt r.tag s) (live h) written in
    let parts = and_parts (is_writer_of f t.0) (nat_lt t.0.tag s) t.2 in
    let low : t.0.tag < s = ltb-true t.0.tag s parts.1 in
    ⊎_elim
    (λ old. let q = ((course_run p h run).order.1 f).tags.behind t.0 t.1 parts.0 old in
    or_right (nat_lt (context h f).seq s) (kept.has_unacked_below s (snaps h f))
    (below (λ y. nat_lt y.context.seq s) true q.0.follows (snaps h f) (λ y is. lt-ltb y.context.seq s (omega (arith, is, q.2, low))) (queued_follows p h run f q.0 q.1)))
    (λ now. or_left (nat_lt (context h f).seq s) (kept.has_unacked_below s (snaps h f)) (lt-ltb (context h f).seq s (omega (arith, now, low))))
    (cases_lt t.0.tag (context h f).seq)

-- the parts of what is owed, where a is implied by the others
implied : (u a w v : Bool) → (a ≡ true → (u || w) ≡ true) → (u || (a || (w || v))) ≡ (u || (w || v))
implied true a w v from = refl
implied false true true v from = refl
implied false true false v from = absurd (false≢true (from refl))
implied false false w v from = refl

-- The client owes a file's state at a snapshot where it wasn't told of it, or where it keeps a cap snap of a context before it or
-- an unacknowledged flush under one.
pub owed_snap : (p : ℕ) (h : List Entry) → IsRun p h → (f s : ℕ) → client_knows h f ≡ true
    → owed h f (at.Snap s)
    ≡ (nat_lt (context h f).seq s || (kept.has_unacked_below s (snaps h f) || list_any (λ (u : Sent). nat_lt u.follows s) (unacked h f)))
owed_snap p h run f s known =
    ap (λ b. not b || (nat_lt (context h f).seq s || (is_written (at.Snap s) f (live h) || Waits h (at.Snap s) f))) known
    ∙ (ap (λ b. nat_lt (context h f).seq s || (is_written (at.Snap s) f (live h) || b)) (waits_is p h run f (at.Snap s))
    ∙ implied (nat_lt (context h f).seq s) (is_written (at.Snap s) f (live h)) (kept.has_unacked_below s (snaps h f))
    (list_any (λ (u : Sent). nat_lt u.follows s) (unacked h f)) (written_waits p h run f s))

-- The head

written_now : (f : ℕ) (rs : List Live) → is_written at.Head f rs ≡ has_writer f rs
written_now f rs =
    same_test (is_written at.Head f rs) (has_writer f rs)
    (λ t. let r = any_some (λ (r : Live). is_writer_of f r && true) rs t in any_true (is_writer_of f) rs r.0 r.1 (and_parts (is_writer_of f r.0) true r.2).0)
    (λ t. let r = any_some (is_writer_of f) rs t in any_true (λ (r : Live). is_writer_of f r && true) rs r.0 r.1 (and_from (is_writer_of f r.0) true r.2 refl))

-- the client owes a file's present state where it has a writer, dirty metadata, a cap snap in the queue or an unacknowledged flush
pub owed_head : (p : ℕ) (h : List Entry) → IsRun p h → (f : ℕ) → client_knows h f ≡ true
    → owed h f at.Head
    ≡ (has_writer f (live h) || (not (is_empty (dirty h f)) || (list_any (λ (y : Snap). true) (snaps h f) || list_any (λ (u : Sent). true) (unacked h f))))
owed_head p h run f known =
    ap (λ b. not b || (is_written at.Head f (live h) || (not (is_empty (dirty h f)) || Waits h at.Head f))) known
    ∙ (ap (λ b. b || (not (is_empty (dirty h f)) || Waits h at.Head f)) (written_now f (live h))
    ∙ ap (λ b. has_writer f (live h) || (not (is_empty (dirty h f)) || b)) (waits_is p h run f at.Head))

-- there is a writer where some are counted
pub writer_counted : (f : ℕ) (rs : List Live) → nat_lt 0 (count_by (is_writer_of f) rs) ≡ has_writer f rs
writer_counted f rs = above_none (count_by (is_writer_of f) rs) (has_writer f rs) (count_none f rs)
  where
    above_none : (n : ℕ) (b : Bool) → (n == 0) ≡ not b → nat_lt 0 n ≡ b
    above_none n true e = lt-ltb 0 n (at n e)
      where
        at : (k : ℕ) → (k == 0) ≡ false → 0 < k
        at k isnt = ⊎_elim (λ same. absurd (both_ways (k == 0) isnt (eq-eqb k 0 (sym same)))) (λ less. less) (eq-or-lt_of_le (let low : 0 ≤ k = omega arith in low))
    above_none n false e = let none : n ≡ 0 = eqb-true n 0 e in rw none refl
