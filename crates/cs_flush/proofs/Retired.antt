-- What an acknowledgement retires, and what it leaves.
use Rattle.std.proofs.Common.{◌≡◌, ℕ, zero, suc, ◌+◌, ◌<◌, ◌≤◌, Bool, true, false, not, ◌&&◌, ltb, leb, eqb, cond, List, [], ◌∷◌, ◌++◌, All, Contains, filter, length, max, refl, ap, ◌∙◌, arith, length-append}
use Rattle.std.proofs.lemmas.Bool.{ltb-true, ltb-false, leb-true, leb-false, lt-ltb, le-ltb, le-leb, lt-leb, eq-eqb, or_right}
use Rattle.std.proofs.lemmas.List.Elements.{All-head, All-push, All-tail, All-weaker, filter_passes}
use Rattle.std.proofs.lemmas.List.Filters.{length-filter_both}
use Rattle.std.proofs.lemmas.List.Folds.{list_any-append}
use Rattle.std.proofs.lemmas.List.Sums.{length-filter}
use Rattle.cs_flush.specs.declared.sent.Sent.{Sent}
use Rattle.cs_flush.specs.declared.sent.FlushAck.TheVariants.{Retired}
use Rattle.cs_flush.specs.Flushes.{IsRising, after_ack, answer, greatest_tid, has_tid, retired, retired_count}
use Rattle.cs_flush.proofs.Rising.{below_next, rising_head, rising_tail}

-- a flush is either retired or left
other_side : (tid n : ℕ) → leb n tid ≡ not (ltb tid n)
other_side tid n = at (ltb tid n) refl
  where
    at : (b : Bool) → ltb tid n ≡ b → leb n tid ≡ not b
    at true e = lt-leb n tid (ltb-true tid n e)
    at false e = le-leb n tid (ltb-false tid n e)

pub retired_counted : (tid : ℕ) (xs : List Sent) → retired_count tid xs + length (retired tid xs) ≡ length xs
retired_counted tid xs =
    omega (arith, length-filter (λ (x : Sent). leb x.tid tid) xs, length-filter_both (λ (x : Sent). ltb tid x.tid) (λ x. leb x.tid tid) (λ x. other_side tid x.tid) xs)

-- two filters are one
filter-filter : (p q r : Sent → Bool) → ((x : Sent) → r x ≡ (p x && q x)) → (xs : List Sent) → filter q (filter p xs) ≡ filter r xs
filter-filter p q r both [] = refl
filter-filter p q r both (x ∷ xs) = rw (both x) (at (p x) (filter-filter p q r both xs))
  where
    at : (b : Bool) → filter q (filter p xs) ≡ filter r xs → filter q (cond b (x ∷ filter p xs) (filter p xs)) ≡ cond (b && q x) (x ∷ filter r xs) (filter r xs)
    at true rest = ap (λ ys. cond (q x) (x ∷ ys) ys) rest
    at false rest = rest

above_both : (s t n : ℕ) → ltb (max s t) n ≡ (ltb s n && ltb t n)
above_both s t n = at (ltb s n) (ltb t n) refl refl
  where
    at : (b c : Bool) → ltb s n ≡ b → ltb t n ≡ c → ltb (max s t) n ≡ (b && c)
    at true true e f = let k = ltb-true s n e in let l = ltb-true t n f in lt-ltb (max s t) n (omega arith)
    at true false e f = let l = ltb-false t n f in le-ltb (max s t) n (omega arith)
    at false c e f = let k = ltb-false s n e in le-ltb (max s t) n (omega arith)

pub retired-retired : (xs : List Sent) (s t : ℕ) → retired t (retired s xs) ≡ retired (max s t) xs
retired-retired xs s t = filter-filter (λ x. ltb s x.tid) (λ x. ltb t x.tid) (λ x. ltb (max s t) x.tid) (λ x. above_both s t x.tid) xs

-- the flushes that are left
pub left_above : (xs : List Sent) (tid : ℕ) → has_tid tid xs ≡ true → All (λ x. tid < x.tid) (after_ack tid xs)
left_above xs tid h =
    rw h (All-weaker (λ x. ltb tid x.tid ≡ true) (λ x. tid < x.tid) (λ x e. ltb-true tid x.tid e) (retired tid xs) (filter_passes (λ x. ltb tid x.tid) xs))

filter_has : (p : Sent → Bool) (xs : List Sent) (x : Sent) → p x ≡ true → Contains xs x → Contains (filter p xs) x
filter_has p [] x e c = absurd (omega (arith, c.1))
filter_has p (y ∷ ys) x e (zero, l, q) = rw (ap p q ∙ e) (0, omega arith, q)
filter_has p (y ∷ ys) x e (suc k, l, q) = at (p y) (filter_has p ys x e (k, omega arith, q))
  where
    at : (b : Bool) → Contains (filter p ys) x → Contains (cond b (y ∷ filter p ys) (filter p ys)) x
    at true (j, m, r) = (suc j, omega arith, r)
    at false rest = rest

pub later_stays : (xs : List Sent) (tid : ℕ) (x : Sent) → Contains xs x → tid < x.tid → Contains (after_ack tid xs) x
later_stays xs tid x c l = at (has_tid tid xs)
  where
    at : (b : Bool) → Contains (cond b (retired tid xs) xs) x
    at true = filter_has (λ y. ltb tid y.tid) xs x (lt-ltb tid x.tid l) c
    at false = c

none_up_to : (tid : ℕ) (xs : List Sent) → All (λ x. tid < x.tid) xs → filter (λ x. leb x.tid tid) xs ≡ []
none_up_to tid [] all = refl
none_up_to tid (x ∷ xs) all = rw (lt-leb x.tid tid (All-head (λ y. tid < y.tid) x xs all)) (none_up_to tid xs (All-tail (λ y. tid < y.tid) x xs all))

pub retired_in_front : (xs : List Sent) (tid : ℕ) → IsRising xs → filter (λ x. leb x.tid tid) xs ++ retired tid xs ≡ xs
retired_in_front [] tid r = refl
retired_in_front (x ∷ xs) tid r = at (leb x.tid tid) refl (retired_in_front xs tid (rising_tail x xs r))
  where
    at : (b : Bool) → leb x.tid tid ≡ b → filter (λ y. leb y.tid tid) xs ++ retired tid xs ≡ xs
        → cond b (x ∷ filter (λ y. leb y.tid tid) xs) (filter (λ y. leb y.tid tid) xs) ++ retired tid (x ∷ xs) ≡ x ∷ xs
    at true e rest = rw (le-ltb tid x.tid (leb-true x.tid tid e)) (ap (λ ys. x ∷ ys) rest)
    at false e rest =
        let l : tid < x.tid = leb-false x.tid tid e in
        let later = All-weaker (λ y. x.tid < y.tid) (λ y. tid < y.tid) (λ y m. omega arith) xs (rising_head x xs r) in
        let none = none_up_to tid xs later in
        rw (lt-ltb tid x.tid l, none) (ap (λ ys. x ∷ ys) (rw none at rest))

-- an acknowledgement of the last leaves none
none_above : (tid : ℕ) (xs : List Sent) → All (λ x. x.tid ≤ tid) xs → retired tid xs ≡ []
none_above tid [] all = refl
none_above tid (x ∷ xs) all = rw (le-ltb tid x.tid (All-head (λ y. y.tid ≤ tid) x xs all)) (none_above tid xs (All-tail (λ y. y.tid ≤ tid) x xs all))

last_has : (xs : List Sent) (x : Sent) → has_tid x.tid (xs ++ x ∷ []) ≡ true
last_has xs x =
    list_any-append (λ (y : Sent). eqb y.tid x.tid) xs (x ∷ []) ∙ or_right (has_tid x.tid xs) _ (rw (eq-eqb x.tid x.tid refl) refl)

last_retires : (xs : List Sent) (x : Sent) → greatest_tid xs < x.tid → retired x.tid (xs ++ x ∷ []) ≡ []
last_retires xs x h =
    let earlier = All-weaker (λ y. y.tid < x.tid) (λ y. y.tid ≤ x.tid) (λ y l. omega arith) xs (below_next xs x.tid h) in
    none_above x.tid (xs ++ x ∷ []) (All-push (λ y. y.tid ≤ x.tid) xs x earlier (omega arith))

pub last_leaves_none : (xs : List Sent) (x : Sent) → greatest_tid xs < x.tid → after_ack x.tid (xs ++ x ∷ []) ≡ []
last_leaves_none xs x h = rw (last_has xs x) (last_retires xs x h)

pub last_counts_all : (xs : List Sent) (x : Sent) → greatest_tid xs < x.tid → answer x.tid (xs ++ x ∷ []) ≡ Retired (length xs + 1)
last_counts_all xs x h =
    let count : retired_count x.tid (xs ++ x ∷ []) ≡ length xs + 1 =
    omega (arith, retired_counted x.tid (xs ++ x ∷ []), ap length (last_retires xs x h), length-append xs (x ∷ [])) in
    rw (last_has xs x, count) refl
