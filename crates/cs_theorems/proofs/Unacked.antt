-- A file's flushes that aren't acknowledged, as the client keeps them, beside the flushes that were sent. What holds of one file
-- at one moment is a record over its values: the list, how many flushes were sent, those, and which numbers of the file's are
-- acknowledged.
use Rattle.std.proofs.Common.{◌≡◌, refl, ap, ◌∙◌, ℕ, ◌+◌, ◌<◌, ◌≤◌, Bool, true, false, cond, ◌==◌, nat_lt, List, [], ◌∷◌, ◌++◌, arith}
use Rattle.std.proofs.lemmas.Bool.{both_ways, eq-eqb, eqb-true, lt-ltb, ltb-false, ltb-true}
use Rattle.cs_flush.specs.declared.sent.Sent.{Sent}
use Rattle.cs_flush.specs.Flushes.{IsRising, after_ack, greatest_tid, has_tid, retired}
use Rattle.cs_flush.proofs.Rising.{greatest_acked, greatest_started, rising_acked, rising_started}
use Rattle.cs_laws.specs.Flushes.{Flush}
use Rattle.cs_theorems.specs.Unacked.{sent_of}
use Rattle.cs_theorems.proofs.Listed.{Member, Each, each_end, each_nil, member_left}
use Rattle.cs_theorems.proofs.Tests.{any_some, any_true, filter_each, filter_has, member_end}
use Rattle.cs_theorems.proofs.Waiting.{now_acked, other_acked, still_free}

-- a flush of the file, and of no cap snap
pub record IsOwn (f : ℕ) (x : Flush) : Type 0 where
  pub file : x.file ≡ f
  pub head : x.snap ≡ false

-- no such flush with this number or a greater one is acknowledged
abbrev pub IsFree : ℕ → List Flush → (ℕ → Bool) → ℕ → Type 0
IsFree f ss acked n = Each (λ y. IsOwn f y → n ≤ y.tid → acked y.tid ≡ false) ss

-- the flush that is kept was sent, and neither it nor a later one is acknowledged
pub record WasFlushed (f : ℕ) (ss : List Flush) (acked : ℕ → Bool) (u : Sent) : Type 0 where
  pub flush : Flush
  pub there : Member flush ss
  pub own : IsOwn f flush
  pub free : IsFree f ss acked flush.tid
  pub is : sent_of flush ≡ u

abbrev pub IsKept : ℕ → List Sent → List Flush → (ℕ → Bool) → Flush → Type 0
IsKept f us ss acked x = IsOwn f x → IsFree f ss acked x.tid → Member (sent_of x) us

-- n: how many flushes were sent
pub record Unacked (f n : ℕ) (us : List Sent) (ss : List Flush) (acked : ℕ → Bool) : Type 0 where
  pub sent : Each (IsKept f us ss acked) ss
  pub kept : Each (WasFlushed f ss acked) us
  pub rising : IsRising us
  pub tids : greatest_tid us ≤ n
  pub drawn : Each (λ x. x.tid ≤ n) ss

pub unacked_first : (f : ℕ) (acked : ℕ → Bool) → Unacked f 0 [] [] acked
unacked_first f acked = record {
  sent = each_nil (IsKept f [] [] acked);
  kept = each_nil (WasFlushed f [] acked);
  rising = λ i j d low within. absurd (omega arith);
  tids = omega arith;
  drawn = each_nil (λ x. x.tid ≤ 0);
}

-- A flush is sent

-- one more, and it isn't acknowledged
free_more : (f n : ℕ) (ss : List Flush) (acked : ℕ → Bool) (x : Flush) → (IsOwn f x → acked x.tid ≡ false) → IsFree f ss acked n
    → IsFree f (ss ++ x ∷ []) acked n
free_more f n ss acked x free all = each_end (λ y. IsOwn f y → n ≤ y.tid → acked y.tid ≡ false) ss x all (λ own _. free own)

free_fewer : (f n : ℕ) (ss : List Flush) (acked : ℕ → Bool) (x : Flush) → IsFree f (ss ++ x ∷ []) acked n → IsFree f ss acked n
free_fewer f n ss acked x all = λ y m. all y (member_left y ss (x ∷ []) m)

was_more : (f : ℕ) (ss : List Flush) (acked : ℕ → Bool) (x : Flush) (u : Sent) → (IsOwn f x → acked x.tid ≡ false) → WasFlushed f ss acked u
    → WasFlushed f (ss ++ x ∷ []) acked u
was_more f ss acked x u free j = record {
  flush = j.flush;
  there = member_left j.flush ss (x ∷ []) j.there;
  own = j.own;
  free = free_more f j.flush.tid ss acked x free j.free;
  is = j.is;
}

drawn_more : (n : ℕ) (ss : List Flush) (x : Flush) → x.tid ≡ n + 1 → Each (λ y. y.tid ≤ n) ss → Each (λ y. y.tid ≤ n + 1) (ss ++ x ∷ [])
drawn_more n ss x tid drawn =
    each_end (λ y. y.tid ≤ n + 1) ss x (λ y m. let low : y.tid ≤ n = drawn y m in omega arith) (omega (arith, tid))

-- it is none of the file, or that of a cap snap
pub unacked_beside : (f n : ℕ) (us : List Sent) (ss : List Flush) (acked : ℕ → Bool) (x : Flush) → x.tid ≡ n + 1 → (IsOwn f x → ⊥) → Unacked f n us ss acked
    → Unacked f (n + 1) us (ss ++ x ∷ []) acked
unacked_beside f n us ss acked x tid other i = record {
  sent = each_end (IsKept f us (ss ++ x ∷ []) acked) ss x
      (λ y m own free. i.sent y m own (free_fewer f y.tid ss acked x free))
      (λ own _. absurd (other own));
  kept = λ u m. was_more f ss acked x u (λ own. absurd (other own)) (i.kept u m);
  rising = i.rising;
  tids = omega (arith, i.tids);
  drawn = drawn_more n ss x tid i.drawn;
}

pub unacked_sent : (f n : ℕ) (us : List Sent) (ss : List Flush) (acked : ℕ → Bool) (x : Flush) → IsOwn f x → x.tid ≡ n + 1 → acked x.tid ≡ false
    → Unacked f n us ss acked → Unacked f (n + 1) (us ++ sent_of x ∷ []) (ss ++ x ∷ []) acked
unacked_sent f n us ss acked x own tid free i = record {
  sent = each_end (IsKept f (us ++ sent_of x ∷ []) (ss ++ x ∷ []) acked) ss x
      (λ y m of_f all. member_left (sent_of y) us (sent_of x ∷ []) (i.sent y m of_f (free_fewer f y.tid ss acked x all)))
      (λ _ _. member_end (sent_of x) us);
  kept = each_end (WasFlushed f (ss ++ x ∷ []) acked) us (sent_of x)
      (λ u m. was_more f ss acked x u (λ _. free) (i.kept u m))
      (record {
        flush = x;
        there = member_end x ss;
        own = own;
        free = free_more f x.tid ss acked x (λ _. free) (λ y m _ above. let before : y.tid ≤ n = i.drawn y m in absurd (omega arith));
        is = refl;
      });
  rising = rising_started us (sent_of x) i.rising (omega (arith, i.tids, tid));
  tids = omega (arith, greatest_started us (sent_of x), i.tids, tid);
  drawn = drawn_more n ss x tid i.drawn;
}

-- One is acknowledged

tid_there : (t : ℕ) (us : List Sent) (u : Sent) → Member u us → u.tid ≡ t → has_tid t us ≡ true
tid_there t us u m is = any_true (λ y. y.tid == t) us u m (eq-eqb u.tid t is)

-- what wasn't acknowledged before isn't now, but for the number itself
free_still : (f t n : ℕ) (ss : List Flush) (acked : ℕ → Bool) → ((y : Flush) → Member y ss → IsOwn f y → n ≤ y.tid → y.tid ≡ t → ⊥) → IsFree f ss acked n
    → IsFree f ss (now_acked t acked) n
free_still f t n ss acked other all = λ y m own above. still_free t y.tid acked (not_same y.tid (other y m own above)) (all y m own above)
  where
    not_same : (k : ℕ) → (k ≡ t → ⊥) → (k == t) ≡ false
    not_same k apart = at (k == t) refl
      where
        at : (b : Bool) → (k == t) ≡ b → b ≡ false
        at true is = absurd (apart (eqb-true k t is))
        at false is = refl

free_before : (f t n : ℕ) (ss : List Flush) (acked : ℕ → Bool) → IsFree f ss (now_acked t acked) n → IsFree f ss acked n
free_before f t n ss acked all = λ y m own above. (other_acked t y.tid acked (all y m own above)).1

was_still : (f t : ℕ) (ss : List Flush) (acked : ℕ → Bool) (u : Sent) (j : WasFlushed f ss acked u)
    → ((y : Flush) → Member y ss → IsOwn f y → j.flush.tid ≤ y.tid → y.tid ≡ t → ⊥) → WasFlushed f ss (now_acked t acked) u
was_still f t ss acked u j other =
    record { flush = j.flush; there = j.there; own = j.own; free = free_still f t j.flush.tid ss acked other j.free; is = j.is }

-- the number is that of one in the list
acked_one : (f t : ℕ) (us : List Sent) (ss : List Flush) (acked : ℕ → Bool) (u : Sent) → u.tid ≡ t → WasFlushed f ss acked u → Each (IsKept f us ss acked) ss
    → Each (WasFlushed f ss acked) us
    → Each (IsKept f (retired t us) ss (now_acked t acked)) ss × Each (WasFlushed f ss (now_acked t acked)) (retired t us)
acked_one f t us ss acked u is j sent kept =
    let number : j.flush.tid ≡ t = ap (λ (v : Sent). v.tid) j.is ∙ is in (
      λ x m own free.
          let above : t < x.tid = later x own free number in
          filter_has (λ v. nat_lt t v.tid) us (sent_of x) (sent x m own (free_before f t x.tid ss acked free)) (lt-ltb t x.tid above),
      λ v m.
          let left = filter_each (λ v. nat_lt t v.tid) us v m in
          let k : WasFlushed f ss acked v = kept v left.1 in
          let above : t < v.tid = ltb-true t v.tid left.0 in
          let same : k.flush.tid ≡ v.tid = ap (λ (w : Sent). w.tid) k.is in
          was_still f t ss acked v k (λ y n own from at_t. omega (arith, above, same)),
    )
  where
    later : (x : Flush) → IsOwn f x → IsFree f ss (now_acked t acked) x.tid → j.flush.tid ≡ t → t < x.tid
    later x own free number = at (nat_lt t x.tid) refl
      where
        at : (b : Bool) → nat_lt t x.tid ≡ b → t < x.tid
        at true e = ltb-true t x.tid e
        at false e =
            let low : x.tid ≤ j.flush.tid = omega (arith, number, ltb-false t x.tid e) in
            absurd (both_ways (j.flush.tid == t) (other_acked t j.flush.tid acked (free j.flush j.there j.own low)).0 (eq-eqb j.flush.tid t number))

-- or of none
acked_none : (f t : ℕ) (us : List Sent) (ss : List Flush) (acked : ℕ → Bool) → has_tid t us ≡ false → Each (IsKept f us ss acked) ss → Each (WasFlushed f ss acked) us
    → Each (IsKept f us ss (now_acked t acked)) ss × Each (WasFlushed f ss (now_acked t acked)) us
acked_none f t us ss acked none sent kept = (
  λ x m own free. sent x m own (free_before f t x.tid ss acked free),
  λ u m.
      let j : WasFlushed f ss acked u = kept u m in
      was_still f t ss acked u j (λ y n own from at_t.
      let all : IsFree f ss acked y.tid = λ z k of_f above. j.free z k of_f (omega (arith, from, above)) in
      both_ways (has_tid t us) none (tid_there t us (sent_of y) (sent y n own all) at_t)),
)

pub unacked_acked : (f n t : ℕ) (us : List Sent) (ss : List Flush) (acked : ℕ → Bool) → Unacked f n us ss acked
    → Unacked f n (after_ack t us) ss (now_acked t acked)
unacked_acked f n t us ss acked i =
    let parts = at (has_tid t us) refl in
    record { sent = parts.0; kept = parts.1; rising = rising_acked t us i.rising; tids = omega (arith, greatest_acked t us, i.tids); drawn = i.drawn }
  where
    at : (b : Bool) → has_tid t us ≡ b
        → Each (IsKept f (cond b (retired t us) us) ss (now_acked t acked)) ss × Each (WasFlushed f ss (now_acked t acked)) (cond b (retired t us) us)
    at true has =
        let u = any_some (λ (y : Sent). y.tid == t) us has in
        acked_one f t us ss acked u.0 (eqb-true u.0.tid t u.2) (i.kept u.0 u.1) i.sent i.kept
    at false none = acked_none f t us ss acked none i.sent i.kept
