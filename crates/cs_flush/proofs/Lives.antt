-- What is unacknowledged after any steps.
use Rattle.std.proofs.Common.{◌≡◌, ℕ, ◌<◌, ◌≤◌, Bool, true, false, ◌||◌, ltb, eqb, cond, List, [], ◌∷◌, ◌++◌, max, refl, sym, ap, ◌∙◌, arith}
use Rattle.std.proofs.lemmas.Bool.{ltb-true, ltb-false, lt-ltb, eqb-true, ne_eqb}
use Rattle.std.proofs.lemmas.List.Elements.{filter-append}
use Rattle.cs_flush.specs.declared.sent.Sent.{Sent}
use Rattle.cs_flush.specs.Flushes.{greatest_tid, has_tid, retired}
use Rattle.cs_flush.specs.Life.{Step, marked, sent, acked, NumbersRise, after, all_sent, greatest_acked}
use Rattle.cs_flush.proofs.Retired.{retired-retired}
use Rattle.cs_flush.proofs.Rising.{greatest_started}

-- only later flushes stay where those up to a number are retired
has_later : (tid last : ℕ) (xs : List Sent) → last < tid → has_tid tid (retired last xs) ≡ has_tid tid xs
has_later tid last [] l = refl
has_later tid last (x ∷ xs) l = at (ltb last x.tid) refl (has_later tid last xs l)
  where
    at : (b : Bool) → ltb last x.tid ≡ b → has_tid tid (retired last xs) ≡ has_tid tid xs
        → has_tid tid (cond b (x ∷ retired last xs) (retired last xs)) ≡ (eqb x.tid tid || has_tid tid xs)
    at true e rest = ap (λ b. eqb x.tid tid || b) rest
    at false e rest =
        let k = ltb-false last x.tid e in
        rw (ne_eqb x.tid tid (λ same. omega arith)) rest

has_no_earlier : (tid last : ℕ) (xs : List Sent) → tid ≤ last → has_tid tid (retired last xs) ≡ false
has_no_earlier tid last [] l = refl
has_no_earlier tid last (x ∷ xs) l = at (ltb last x.tid) refl (has_no_earlier tid last xs l)
  where
    at : (b : Bool) → ltb last x.tid ≡ b → has_tid tid (retired last xs) ≡ false → has_tid tid (cond b (x ∷ retired last xs) (retired last xs)) ≡ false
    at true e rest =
        let k = ltb-true last x.tid e in
        rw (ne_eqb x.tid tid (λ same. omega arith)) rest
    at false e rest = rest

-- only what was sent is acknowledged
has_below : (tid : ℕ) (xs : List Sent) → has_tid tid xs ≡ true → tid ≤ greatest_tid xs
has_below tid [] h = absurd cc
has_below tid (x ∷ xs) h = at (eqb x.tid tid) refl h (has_below tid xs)
  where
    at : (b : Bool) → eqb x.tid tid ≡ b → (b || has_tid tid xs) ≡ true → (has_tid tid xs ≡ true → tid ≤ greatest_tid xs) → tid ≤ greatest_tid (x ∷ xs)
    at true e h rest = omega (arith, eqb-true x.tid tid e)
    at false e h rest = omega (arith, rest h)

acked_below : (h : List Step) → greatest_acked h ≤ greatest_tid (all_sent h)
acked_below [] = omega arith
acked_below (marked bits ∷ h) = acked_below h
acked_below (sent x ∷ h) = omega (arith, acked_below h, greatest_started (all_sent h) x)
acked_below (acked tid ∷ h) = at (has_tid tid (all_sent h)) refl (acked_below h)
  where
    at : (b : Bool) → has_tid tid (all_sent h) ≡ b → greatest_acked h ≤ greatest_tid (all_sent h) → cond b (max (greatest_acked h) tid) (greatest_acked h) ≤ greatest_tid (all_sent h)
    at true e rest = omega (arith, has_below tid (all_sent h) e)
    at false e rest = rest

sent_stays : (last : ℕ) (xs : List Sent) (x : Sent) → last < x.tid → retired last (xs ++ x ∷ []) ≡ retired last xs ++ x ∷ []
sent_stays last xs x l =
    filter-append (λ y. ltb last y.tid) xs (x ∷ []) ∙ ap (λ ys. retired last xs ++ ys) (rw (lt-ltb last x.tid l) refl)

same_at : (b : Bool) (n : ℕ) (xs : List Sent) → retired n xs ≡ retired (cond b n n) xs
same_at true n xs = refl
same_at false n xs = refl

acks_retire : (tid last : ℕ) (xs : List Sent) → cond (has_tid tid (retired last xs)) (retired tid (retired last xs)) (retired last xs) ≡ retired (cond (has_tid tid xs) (max last tid) last) xs
acks_retire tid last xs = at (ltb last tid) refl
  where
    later : (b : Bool) → cond b (retired tid (retired last xs)) (retired last xs) ≡ retired (cond b (max last tid) last) xs
    later true = retired-retired xs last tid
    later false = refl

    at : (b : Bool) → ltb last tid ≡ b
        → cond (has_tid tid (retired last xs)) (retired tid (retired last xs)) (retired last xs) ≡ retired (cond (has_tid tid xs) (max last tid) last) xs
    at true e = rw (has_later tid last xs (ltb-true last tid e)) (later (has_tid tid xs))
    at false e =
        let l = ltb-false last tid e in
        let greater : max last tid ≡ last = omega arith in
        rw (has_no_earlier tid last xs l, greater) (same_at (has_tid tid xs) last xs)

pub unacked_after : (h : List Step) → NumbersRise h → (after h).unacked ≡ retired (greatest_acked h) (all_sent h)
unacked_after [] r = refl
unacked_after (marked bits ∷ h) r = unacked_after h r
unacked_after (sent x ∷ h) r =
    ap (λ ys. ys ++ x ∷ []) (unacked_after h r.1) ∙ sym (sent_stays (greatest_acked h) (all_sent h) x (omega (arith, r.0, acked_below h)))
unacked_after (acked tid ∷ h) r = rw (unacked_after h r) (acks_retire tid (greatest_acked h) (all_sent h))
