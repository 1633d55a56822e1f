-- Each call keeps the order of a queue.
use Rattle.std.proofs.Common.{◌≡◌, ℕ, ◌+◌, ◌-◌, ◌<◌, ◌≤◌, ◌==◌, eqb-true, Bool, true, false, not, cond, List, [], ◌∷◌, ◌++◌, Option, Some, None, is_none, unwrap_or, refl, sym, ◌∙◌, ap, arith}
use Rattle.std.specs.List.{AllByRecursion, position_or_len}
use Rattle.std.specs.Option.{option_map_or}
use Rattle.std.proofs.lemmas.Bool.{or_parts, false≢true}
use Rattle.cs_capsnap.specs.declared.snap.CapSnap.{CapSnap}
use Rattle.cs_capsnap.specs.CapSnaps.{can_send, fixed, finished, greatest_tid, has_tid, is_sent_as, is_unsent, is_writing, with_first_sent, without_tid}
use Rattle.cs_capsnap.specs.Order.{IsSentBefore, Precedes, IsInOrder, IsQueue}

-- an unsent one goes last
all_push : (P : CapSnap → Type 0) (xs : List CapSnap) (x : CapSnap) → AllByRecursion P xs → P x → AllByRecursion P (xs ++ x ∷ [])
all_push P [] x all p = (p, tt)
all_push P (y ∷ ys) x all p = (all.0, all_push P ys x all.1 p)

pub order_push : (xs : List CapSnap) (x : CapSnap) → x.tid ≡ None → is_writing xs ≡ false → IsInOrder xs → IsInOrder (xs ++ x ∷ [])
order_push [] x e w o = (λ _. rw e refl, tt, tt)
order_push (y ∷ ys) x e w o =
    let parts = or_parts y.writing (is_writing ys) w in
    (o.0, all_push (Precedes y) ys x o.1 (record { closed = parts.0; tids = rw e tt }), order_push ys x e parts.1 o.2)

first_push : (xs : List CapSnap) (x : CapSnap) → x.tid ≡ None → position_or_len is_unsent (xs ++ x ∷ []) ≡ position_or_len is_unsent xs
first_push [] x e = rw e refl
first_push (y ∷ ys) x e = ap (λ n. cond (not (is_unsent y)) (1 + n) 0) (first_push ys x e)

pub queue_push : (next : ℕ) (xs : List CapSnap) (x : CapSnap) → x.tid ≡ None → is_writing xs ≡ false → IsQueue next xs → IsQueue next (xs ++ x ∷ [])
queue_push next xs x e w k = record { order = order_push xs x e w k.order; first = first_push xs x e ∙ k.first }

-- the end of a writing changes no number
pub tid-fixed : (size mtime : ℕ) (x : CapSnap) → (fixed size mtime x).tid ≡ x.tid
tid-fixed size mtime x = at x.writing
  where
    at : (b : Bool) → (cond b (record x { meta = record x.meta { size = size; mtime = mtime }; writing = false }) x).tid ≡ x.tid
    at true = refl
    at false = refl

pub writing-fixed : (size mtime : ℕ) (x : CapSnap) → (fixed size mtime x).writing ≡ false
writing-fixed size mtime x = at x.writing refl
  where
    at : (b : Bool) → x.writing ≡ b → (cond b (record x { meta = record x.meta { size = size; mtime = mtime }; writing = false }) x).writing ≡ false
    at true e = refl
    at false e = e

all_finished : (size mtime : ℕ) (x : CapSnap) (xs : List CapSnap) → AllByRecursion (Precedes x) xs → AllByRecursion (Precedes (fixed size mtime x)) (finished size mtime xs)
all_finished size mtime x [] all = tt
all_finished size mtime x (y ∷ ys) all =
    (record { closed = writing-fixed size mtime x; tids = rw (tid-fixed size mtime x, tid-fixed size mtime y) all.0.tids }, all_finished size mtime x ys all.1)

pub order_finished : (size mtime : ℕ) (xs : List CapSnap) → IsInOrder xs → IsInOrder (finished size mtime xs)
order_finished size mtime [] o = tt
order_finished size mtime (x ∷ xs) o =
    (λ w. absurd (false≢true (sym (writing-fixed size mtime x) ∙ w)), all_finished size mtime x xs o.1, order_finished size mtime xs o.2)

first_finished : (size mtime : ℕ) (xs : List CapSnap) → position_or_len is_unsent (finished size mtime xs) ≡ position_or_len is_unsent xs
first_finished size mtime [] = refl
first_finished size mtime (x ∷ xs) = rw (tid-fixed size mtime x) (ap (λ n. cond (not (is_unsent x)) (1 + n) 0) (first_finished size mtime xs))

pub queue_finished : (next size mtime : ℕ) (xs : List CapSnap) → IsQueue next xs → IsQueue next (finished size mtime xs)
queue_finished next size mtime xs k = record { order = order_finished size mtime xs k.order; first = first_finished size mtime xs ∙ k.first }

-- what the test tells of its number
unsent_none : (x : CapSnap) → is_unsent x ≡ true → x.tid ≡ None
unsent_none x = at x.tid
  where
    at : (o : Option ℕ) → is_none o ≡ true → o ≡ None
    at None e = refl
    at (Some t) e = absurd (false≢true e)

sent_some : (x : CapSnap) → is_unsent x ≡ false → (t : ℕ) × (x.tid ≡ Some t)
sent_some x = at x.tid
  where
    at : (o : Option ℕ) → is_none o ≡ false → (t : ℕ) × (o ≡ Some t)
    at None e = absurd (false≢true (sym e))
    at (Some t) e = (t, refl)

-- none was sent behind one that wasn't
pub before_unsent : (t u : Option ℕ) → t ≡ None → IsSentBefore t u → u ≡ None
before_unsent t None e b = refl
before_unsent None (Some u) e b = absurd b
before_unsent (Some t) (Some u) e b = absurd cc

first_behind : (x : CapSnap) (xs : List CapSnap) → x.tid ≡ None → AllByRecursion (Precedes x) xs → position_or_len is_unsent xs ≡ 0
first_behind x [] e all = refl
first_behind x (y ∷ ys) e all = rw (before_unsent x.tid y.tid e all.0.tids) refl

-- the first unsent one gets a greater number than all
if_all : (P : CapSnap → Type 0) (b : Bool) (xs ys : List CapSnap) → AllByRecursion P xs → AllByRecursion P ys → AllByRecursion P (cond b xs ys)
if_all P true xs ys p q = p
if_all P false xs ys p q = q

if_order : (b : Bool) (xs ys : List CapSnap) → (b ≡ true → IsInOrder xs) → (b ≡ false → IsInOrder ys) → IsInOrder (cond b xs ys)
if_order true xs ys p q = p refl
if_order false xs ys p q = q refl

all_sent : (P : CapSnap → Type 0) (tid : ℕ) (xs : List CapSnap) → AllByRecursion P xs → ((x : CapSnap) → P x → P (record x { tid = Some tid }))
    → AllByRecursion P (with_first_sent tid xs)
all_sent P tid [] all p = tt
all_sent P tid (x ∷ xs) all p =
    if_all P (is_unsent x) (record x { tid = Some tid } ∷ xs) (x ∷ with_first_sent tid xs) (p x all.0, all.1) (all.0, all_sent P tid xs all.1 p)

all_behind_sent : (tid : ℕ) (x : CapSnap) (xs : List CapSnap) → x.tid ≡ None → x.writing ≡ false → AllByRecursion (Precedes x) xs
    → AllByRecursion (Precedes (record x { tid = Some tid })) xs
all_behind_sent tid x [] e w all = tt
all_behind_sent tid x (y ∷ ys) e w all =
    (record { closed = w; tids = rw (before_unsent x.tid y.tid e all.0.tids) tt }, all_behind_sent tid x ys e w all.1)

not_true : (b : Bool) → not b ≡ true → b ≡ false
not_true true e = sym e
not_true false e = refl

pub order_sent : (tid : ℕ) (xs : List CapSnap) → can_send xs ≡ true → greatest_tid xs < tid → IsInOrder xs → IsInOrder (with_first_sent tid xs)
order_sent tid [] can above o = tt
order_sent tid (x ∷ xs) can above o =
    if_order (is_unsent x) (record x { tid = Some tid } ∷ xs) (x ∷ with_first_sent tid xs)
    (λ u. let done : x.writing ≡ false = not_true x.writing (rw u at can) in
    (λ w. absurd (false≢true (sym done ∙ w)), all_behind_sent tid x xs (unsent_none x u) done o.1, o.2))
    (λ s. let t = sent_some x s in
    let lower : t.0 < tid = omega (arith, ap (λ o. unwrap_or o 0) t.1) in
    (o.0, all_sent (Precedes x) tid xs o.1 (λ y p. record { closed = p.closed; tids = rw t.1 lower }), order_sent tid xs (rw s at can) (omega arith) o.2))

if_first : (b : Bool) (xs ys : List CapSnap) (n : ℕ) → (b ≡ true → position_or_len is_unsent xs ≡ n) → (b ≡ false → position_or_len is_unsent ys ≡ n)
    → position_or_len is_unsent (cond b xs ys) ≡ n
if_first true xs ys n p q = p refl
if_first false xs ys n p q = q refl

pub first_of : (x : CapSnap) (xs : List CapSnap) (b : Bool) → is_unsent x ≡ b → position_or_len is_unsent (x ∷ xs) ≡ cond b 0 (1 + position_or_len is_unsent xs)
first_of x xs true e = rw e refl
first_of x xs false e = rw e refl

first_sent : (tid : ℕ) (xs : List CapSnap) → can_send xs ≡ true → IsInOrder xs → position_or_len is_unsent (with_first_sent tid xs) ≡ position_or_len is_unsent xs + 1
first_sent tid [] can o = absurd (false≢true can)
first_sent tid (x ∷ xs) can o =
    if_first (is_unsent x) (record x { tid = Some tid } ∷ xs) (x ∷ with_first_sent tid xs) (position_or_len is_unsent (x ∷ xs) + 1)
    (λ u. omega (arith, first_behind x xs (unsent_none x u) o.1, first_of x xs true u))
    (λ s. omega (arith, first_sent tid xs (rw s at can) o.2, first_of x xs false s, first_of x (with_first_sent tid xs) false s))

pub queue_sent : (next tid : ℕ) (xs : List CapSnap) → can_send xs ≡ true → greatest_tid xs < tid → IsQueue next xs → IsQueue (next + 1) (with_first_sent tid xs)
queue_sent next tid xs can above k =
    record { order = order_sent tid xs can above k.order; first = omega (arith, first_sent tid xs can k.order, k.first) }

-- the one of a number leaves
all_left : (P : CapSnap → Type 0) (tid : ℕ) (xs : List CapSnap) → AllByRecursion P xs → AllByRecursion P (without_tid tid xs)
all_left P tid [] all = tt
all_left P tid (x ∷ xs) all = if_all P (is_sent_as tid x) xs (x ∷ without_tid tid xs) all.1 (all.0, all_left P tid xs all.1)

pub order_left : (tid : ℕ) (xs : List CapSnap) → IsInOrder xs → IsInOrder (without_tid tid xs)
order_left tid [] o = tt
order_left tid (x ∷ xs) o =
    if_order (is_sent_as tid x) xs (x ∷ without_tid tid xs) (λ _. o.2) (λ _. (o.0, all_left (Precedes x) tid xs o.1, order_left tid xs o.2))

-- one that was sent isn't the first unsent one
pub was_sent : (tid : ℕ) (x : CapSnap) → is_sent_as tid x ≡ true → is_unsent x ≡ false
was_sent tid x = at x.tid
  where
    at : (o : Option ℕ) → option_map_or (λ t. t == tid) o false ≡ true → is_none o ≡ false
    at None e = absurd (false≢true e)
    at (Some t) e = refl

sent_under : (tid : ℕ) (x : CapSnap) → is_sent_as tid x ≡ true → x.tid ≡ Some tid
sent_under tid x = at x.tid
  where
    at : (o : Option ℕ) → option_map_or (λ t. t == tid) o false ≡ true → o ≡ Some tid
    at None e = absurd (false≢true e)
    at (Some t) e = ap Some (eqb-true t tid e)

-- none was sent under the number behind one that wasn't sent, or behind the one that was
none_behind_unsent : (tid : ℕ) (x : CapSnap) (xs : List CapSnap) → x.tid ≡ None → AllByRecursion (Precedes x) xs → has_tid tid xs ≡ false
none_behind_unsent tid x [] e all = refl
none_behind_unsent tid x (y ∷ ys) e all = rw (before_unsent x.tid y.tid e all.0.tids) (none_behind_unsent tid x ys e all.1)

other_behind : (tid : ℕ) (t u : Option ℕ) → t ≡ Some tid → IsSentBefore t u → option_map_or (λ v. v == tid) u false ≡ false
other_behind tid t None e b = refl
other_behind tid None (Some u) e b = absurd b
other_behind tid (Some t) (Some u) e b = above tid t u e b
  where
    above : (tid t u : ℕ) → Some t ≡ Some tid → t < u → (u == tid) ≡ false
    above tid t u e l = grind arith

none_behind_sent : (tid : ℕ) (x : CapSnap) (xs : List CapSnap) → x.tid ≡ Some tid → AllByRecursion (Precedes x) xs → has_tid tid xs ≡ false
none_behind_sent tid x [] e all = refl
none_behind_sent tid x (y ∷ ys) e all = rw (other_behind tid x.tid y.tid e all.0.tids) (none_behind_sent tid x ys e all.1)

first_is_sent : (tid : ℕ) (x : CapSnap) (xs : List CapSnap) → has_tid tid (x ∷ xs) ≡ true → AllByRecursion (Precedes x) xs → is_unsent x ≡ false
first_is_sent tid x xs has all = at (is_unsent x) refl
  where
    at : (b : Bool) → is_unsent x ≡ b → is_unsent x ≡ false
    at true u =
        let e = unsent_none x u in
        let none : has_tid tid xs ≡ true = rw e at has in
        absurd (false≢true (sym (none_behind_unsent tid x xs e all) ∙ none))
    at false u = u

first_left : (tid : ℕ) (xs : List CapSnap) → has_tid tid xs ≡ true → IsInOrder xs → position_or_len is_unsent (without_tid tid xs) + 1 ≡ position_or_len is_unsent xs
first_left tid [] has o = absurd (false≢true has)
first_left tid (x ∷ xs) has o =
    let s = first_is_sent tid x xs has o.1 in
    let left : position_or_len is_unsent (without_tid tid (x ∷ xs)) ≡ position_or_len is_unsent xs =
    if_first (is_sent_as tid x) xs (x ∷ without_tid tid xs) (position_or_len is_unsent xs) (λ _. refl)
    (λ f. omega (arith, first_left tid xs (rw f at has) o.2, first_of x (without_tid tid xs) false s)) in
    omega (arith, left, first_of x xs false s)

pub queue_left : (next tid : ℕ) (xs : List CapSnap) → has_tid tid xs ≡ true → IsQueue next xs → IsQueue (next - 1) (without_tid tid xs)
queue_left next tid xs has k = record { order = order_left tid xs k.order; first = omega (arith, first_left tid xs has k.order, k.first) }

pub next_above : (tid next : ℕ) (xs : List CapSnap) → has_tid tid xs ≡ true → IsQueue next xs → 1 ≤ next
next_above tid next xs has k = omega (arith, first_left tid xs has k.order, k.first)

-- no other has the number
if_has : (tid : ℕ) (b : Bool) (xs ys : List CapSnap) → (b ≡ true → has_tid tid xs ≡ false) → (b ≡ false → has_tid tid ys ≡ false) → has_tid tid (cond b xs ys) ≡ false
if_has tid true xs ys p q = p refl
if_has tid false xs ys p q = q refl

pub none_left : (tid : ℕ) (xs : List CapSnap) → IsInOrder xs → has_tid tid (without_tid tid xs) ≡ false
none_left tid [] o = refl
none_left tid (x ∷ xs) o =
    if_has tid (is_sent_as tid x) xs (x ∷ without_tid tid xs) (λ e. none_behind_sent tid x xs (sent_under tid x e) o.1) (λ f. rw f (none_left tid xs o.2))
