-- The order of the flushes, and the greatest of their numbers.
use Rattle.std.proofs.Common.{◌≡◌, ℕ, suc, ◌-◌, ◌<◌, ◌≤◌, Bool, true, false, leb, cond, List, [], ◌∷◌, ◌++◌, All, filter, length, max, refl, arith}
use Rattle.std.proofs.lemmas.Bool.{leb-true, leb-false}
use Rattle.std.proofs.lemmas.List.Elements.{All-nil, All-cons, All-head, All-weaker}
use Rattle.std.proofs.lemmas.List.Kept.{AllPairs-filter}
use Rattle.std.proofs.lemmas.List.Quantifiers.{all_pairs_push}
use Rattle.std.proofs.lemmas.List.Sums.{length-filter}
use Rattle.cs_flush.specs.declared.sent.Sent.{Sent}
use Rattle.cs_flush.specs.Flushes.{IsRising, after_ack, greatest_tid, has_tid, retired, retired_count}

-- a number above the greatest is above each
pub below_next : (xs : List Sent) (tid : ℕ) → greatest_tid xs < tid → All (λ x. x.tid < tid) xs
below_next [] tid h = All-nil (λ x. x.tid < tid)
below_next (x ∷ xs) tid h = All-cons (λ x. x.tid < tid) x xs (omega arith) (below_next xs tid (omega arith))

pub rising_started : (xs : List Sent) (x : Sent) → IsRising xs → greatest_tid xs < x.tid → IsRising (xs ++ x ∷ [])
rising_started xs x r h = all_pairs_push (λ a b. a.tid < b.tid) xs x r (below_next xs x.tid h)

pub rising_retired : (tid : ℕ) (xs : List Sent) → IsRising xs → IsRising (retired tid xs)
rising_retired tid xs r = AllPairs-filter (λ a b. a.tid < b.tid) _ xs r

pub rising_acked : (tid : ℕ) (xs : List Sent) → IsRising xs → IsRising (after_ack tid xs)
rising_acked tid xs r = at (has_tid tid xs)
  where
    at : (b : Bool) → IsRising (cond b (retired tid xs) xs)
    at true = rising_retired tid xs r
    at false = r

-- the first is below all others, and those rise
pub rising_head : (x : Sent) (xs : List Sent) → IsRising (x ∷ xs) → All (λ y. x.tid < y.tid) xs
rising_head x xs r = λ k d l. r 0 (suc k) d (omega arith) (omega arith)

pub rising_tail : (x : Sent) (xs : List Sent) → IsRising (x ∷ xs) → IsRising xs
rising_tail x xs r = λ i j d l m. r (suc i) (suc j) d (omega arith) (omega arith)

-- no more flushes than numbers are retired
retired_from : (tid low : ℕ) (xs : List Sent) → All (λ x. low ≤ x.tid) xs → IsRising xs → length (filter (λ x. leb x.tid tid) xs) ≤ (suc tid) - low
retired_from tid low [] all r = omega arith
retired_from tid low (x ∷ xs) all r =
    let first = All-head (λ y. low ≤ y.tid) x xs all in
    let later = All-weaker (λ y. x.tid < y.tid) (λ y. suc x.tid ≤ y.tid) (λ y l. omega arith) xs (rising_head x xs r) in
    at (leb x.tid tid) refl first (retired_from tid (suc x.tid) xs later (rising_tail x xs r))
  where
    at : (b : Bool) → leb x.tid tid ≡ b → low ≤ x.tid → length (filter (λ y. leb y.tid tid) xs) ≤ (suc tid) - (suc x.tid)
        → length (cond b (x ∷ filter (λ y. leb y.tid tid) xs) (filter (λ y. leb y.tid tid) xs)) ≤ (suc tid) - low
    at true e first rest = let l = leb-true x.tid tid e in omega arith
    at false e first rest = let l = leb-false x.tid tid e in omega arith

pub retired_few : (tid : ℕ) (xs : List Sent) → IsRising xs → retired_count tid xs ≤ suc tid
retired_few tid xs r = omega (arith, retired_from tid 0 xs (λ k d l. omega arith) r, length-filter (λ (x : Sent). leb x.tid tid) xs)

pub greatest_started : (xs : List Sent) (x : Sent) → greatest_tid (xs ++ x ∷ []) ≡ max (greatest_tid xs) x.tid
greatest_started [] x = omega arith
greatest_started (y ∷ ys) x = omega (arith, greatest_started ys x)

greatest_retired : (tid : ℕ) (xs : List Sent) → greatest_tid (retired tid xs) ≤ greatest_tid xs
greatest_retired tid [] = omega arith
greatest_retired tid (x ∷ xs) = at _ (greatest_retired tid xs)
  where
    at : (b : Bool) → greatest_tid (retired tid xs) ≤ greatest_tid xs → greatest_tid (cond b (x ∷ retired tid xs) (retired tid xs)) ≤ greatest_tid (x ∷ xs)
    at true rest = omega arith
    at false rest = omega arith

pub greatest_acked : (tid : ℕ) (xs : List Sent) → greatest_tid (after_ack tid xs) ≤ greatest_tid xs
greatest_acked tid xs = at (has_tid tid xs)
  where
    at : (b : Bool) → greatest_tid (cond b (retired tid xs) xs) ≤ greatest_tid xs
    at true = greatest_retired tid xs
    at false = omega arith
