-- The places at which the calls read and write.
use Rattle.std.proofs.Common.{◌≡◌, ℕ, zero, suc, ◌+◌, ◌-◌, ◌<◌, ◌≤◌, nat_lt, Bool, true, false, ◌||◌, cond, List, [], ◌∷◌, Option, Some, None, IsSome, OnSome, length, get_or, set, position, refl, sym, ◌∙◌, ap, arith}
use Rattle.std.specs.List.{position_or_len, remove}
use Rattle.std.proofs.lemmas.Bool.{false≢true, or_parts}
use Rattle.std.proofs.lemmas.Option.{cond_some}
use Rattle.cs_capsnap.specs.declared.snap.CapSnap.{CapSnap}
use Rattle.cs_capsnap.specs.CapSnaps.{can_send, has_tid, is_sent_as, is_unsent, with_first_sent, without_tid}
use Rattle.cs_capsnap.specs.Order.{IsQueue}
use Rattle.cs_capsnap.proofs.Order.{first_of, queue_left, next_above, none_left}

-- the first unsent one, where it can be sent, is in the queue, and it is the one that is sent
pub within : (xs : List CapSnap) (n : ℕ) → can_send xs ≡ true → position_or_len is_unsent xs ≡ n → n < length xs
within [] n can e = absurd (false≢true can)
within (x ∷ xs) n can e = at (is_unsent x) refl (λ s. within xs (position_or_len is_unsent xs) (rw s at can) refl)
  where
    at : (b : Bool) → is_unsent x ≡ b → (is_unsent x ≡ false → position_or_len is_unsent xs < length xs) → n < suc (length xs)
    at true u rest = omega (arith, first_of x xs true u, e)
    at false s rest = omega (arith, first_of x xs false s, e, rest s)

pub sent_at : (n : ℕ) (xs : List CapSnap) (x : CapSnap) (tid : ℕ) → n < length xs → position_or_len is_unsent xs ≡ n → x ≡ get_or xs n x
    → with_first_sent tid xs ≡ set xs n (record x { tid = Some tid })
sent_at n [] x tid l e g = absurd (omega arith)
sent_at zero (y ∷ ys) x tid l e g = at (is_unsent y) refl
  where
    at : (b : Bool) → is_unsent y ≡ b → cond b (record y { tid = Some tid } ∷ ys) (y ∷ with_first_sent tid ys) ≡ record x { tid = Some tid } ∷ ys
    at true u = ap (λ (z : CapSnap). record z { tid = Some tid } ∷ ys) (sym g)
    at false s = absurd (omega (arith, first_of y ys false s, e))
sent_at (suc n) (y ∷ ys) x tid l e g = at (is_unsent y) refl (λ m. sent_at n ys x tid (omega arith) m g)
  where
    at : (b : Bool) → is_unsent y ≡ b → (position_or_len is_unsent ys ≡ n → with_first_sent tid ys ≡ set ys n (record x { tid = Some tid }))
        → cond b (record y { tid = Some tid } ∷ ys) (y ∷ with_first_sent tid ys) ≡ y ∷ set ys n (record x { tid = Some tid })
    at true u rest = absurd (omega (arith, first_of y ys true u, e))
    at false s rest = ap (λ zs. y ∷ zs) (rest (omega (arith, first_of y ys false s, e)))

-- where the number stands, and what is left without it
place_of : (tid : ℕ) (x : CapSnap) (xs : List CapSnap) (b : Bool) → is_sent_as tid x ≡ b
    → position_or_len (is_sent_as tid) (x ∷ xs) ≡ cond b 0 (1 + position_or_len (is_sent_as tid) xs)
place_of tid x xs true e = rw e refl
place_of tid x xs false e = rw e refl

one_up : (n m : ℕ) → nat_lt (1 + n) (suc m) ≡ nat_lt n m
one_up n m = grind arith

zero_below : (m : ℕ) → nat_lt 0 (suc m) ≡ true
zero_below m = grind arith

found_within : (tid : ℕ) (xs : List CapSnap) → nat_lt (position_or_len (is_sent_as tid) xs) (length xs) ≡ has_tid tid xs
found_within tid [] = refl
found_within tid (x ∷ xs) = at (is_sent_as tid x) refl (found_within tid xs)
  where
    at : (b : Bool) → is_sent_as tid x ≡ b → nat_lt (position_or_len (is_sent_as tid) xs) (length xs) ≡ has_tid tid xs
        → nat_lt (position_or_len (is_sent_as tid) (x ∷ xs)) (suc (length xs)) ≡ (b || has_tid tid xs)
    at true e rest = rw (place_of tid x xs true e) (zero_below (length xs))
    at false e rest = rw (place_of tid x xs false e) (one_up _ _ ∙ rest)

removed : (n tid : ℕ) (xs : List CapSnap) → position_or_len (is_sent_as tid) xs ≡ n → n < length xs → without_tid tid xs ≡ remove xs n
removed n tid [] e l = absurd (omega arith)
removed zero tid (x ∷ xs) e l = at (is_sent_as tid x) refl
  where
    at : (b : Bool) → is_sent_as tid x ≡ b → cond b xs (x ∷ without_tid tid xs) ≡ xs
    at true s = refl
    at false s = absurd (omega (arith, place_of tid x xs false s, e))
removed (suc n) tid (x ∷ xs) e l = at (is_sent_as tid x) refl (λ m. removed n tid xs m (omega arith))
  where
    at : (b : Bool) → is_sent_as tid x ≡ b → (position_or_len (is_sent_as tid) xs ≡ n → without_tid tid xs ≡ remove xs n)
        → cond b xs (x ∷ without_tid tid xs) ≡ x ∷ remove xs n
    at true s rest = absurd (omega (arith, place_of tid x xs true s, e))
    at false s rest = ap (λ ys. x ∷ ys) (rest (omega (arith, place_of tid x xs false s, e)))

-- what a look-up by number gives
pub record IsPlaceOf (tid i : ℕ) (xs : List CapSnap) : Type 0 where
  pub within : i < length xs
  pub has : has_tid tid xs ≡ true
  pub left : without_tid tid xs ≡ remove xs i

pub found_place : (tid i : ℕ) (xs : List CapSnap) → position (is_sent_as tid) xs ≡ Some i → IsPlaceOf tid i xs
found_place tid i xs e =
    let parts = cond_some (nat_lt (position_or_len (is_sent_as tid) xs) (length xs)) (position_or_len (is_sent_as tid) xs) i e in
    let inside : i < length xs = grind (arith, parts.0, parts.1) in
    record { within = inside; has = sym (found_within tid xs) ∙ parts.0; left = removed i tid xs parts.1 inside }

pub no_place : (tid : ℕ) (xs : List CapSnap) → position (is_sent_as tid) xs ≡ None → has_tid tid xs ≡ false
no_place tid xs e = sym (found_within tid xs) ∙ cond_none (nat_lt (position_or_len (is_sent_as tid) xs) (length xs)) (position_or_len (is_sent_as tid) xs) e
  where
    cond_none : (b : Bool) (i : ℕ) → cond b (Some i) None ≡ None → b ≡ false
    cond_none true i e = absurd cc
    cond_none false i e = refl

pub without_none : (tid : ℕ) (xs : List CapSnap) → has_tid tid xs ≡ false → without_tid tid xs ≡ xs
without_none tid [] e = refl
without_none tid (x ∷ xs) e =
    let parts = or_parts (is_sent_as tid x) (has_tid tid xs) e in
    rw parts.0 (ap (λ ys. x ∷ ys) (without_none tid xs parts.1))

-- what is left where the one of a number is taken out
pub record IsTakenOut (tid next : ℕ) (new : List CapSnap) : Type 0 where
  pub above : 1 ≤ next
  pub kept : IsQueue (next - 1) new
  pub gone : has_tid tid new ≡ false

pub taken_out : (tid next i : ℕ) (xs : List CapSnap) → position (is_sent_as tid) xs ≡ Some i → IsQueue next xs → IsTakenOut tid next (remove xs i)
taken_out tid next i xs e k =
    let place = found_place tid i xs e in
    record {
      above = next_above tid next xs place.has k;
      kept = rw (← place.left) (queue_left next tid xs place.has k);
      gone = rw (← place.left) (none_left tid xs k.order);
    }

pub some_then : {X P : Type 0} (r : Option X) → IsSome r → OnSome r P → P
some_then None s p = absurd (false≢true s)
some_then (Some x) s p = p
