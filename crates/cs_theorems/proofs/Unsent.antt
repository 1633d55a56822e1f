-- What each step of a file's queue does to the cap snaps that aren't sent.
use Rattle.std.proofs.Common.{◌≡◌, refl, sym, ap, ◌∙◌, ℕ, Bool, true, false, cond, ◌||◌, List, [], ◌∷◌, ◌++◌, Some, None, drop, filter, slice_get}
use Rattle.std.proofs.lemmas.Bool.{false≢true, or_parts}
use Rattle.cs_capsnap.specs.declared.snap.CapSnap.{CapSnap}
use Rattle.cs_capsnap.specs.CapSnaps.{fixed, finished, first_unsent, is_sent_as, is_unsent, is_writing, sent_as, with_first_sent, without_tid, writing_context}
use Rattle.cs_capsnap.specs.Order.{IsInOrder}
use Rattle.cs_capsnap.proofs.Order.{tid-fixed, was_sent}

-- those that aren't sent, in their order
abbrev pub unsent : List CapSnap → List CapSnap
unsent xs = filter is_unsent xs

pub unsent_push : (xs : List CapSnap) (x : CapSnap) → x.tid ≡ None → unsent (xs ++ x ∷ []) ≡ unsent xs ++ x ∷ []
unsent_push [] x new = rw new refl
unsent_push (y ∷ ys) x new = at (is_unsent y) (unsent_push ys x new)
  where
    at : (b : Bool) → unsent (ys ++ x ∷ []) ≡ unsent ys ++ x ∷ []
        → cond b (y ∷ unsent (ys ++ x ∷ [])) (unsent (ys ++ x ∷ [])) ≡ cond b (y ∷ unsent ys) (unsent ys) ++ x ∷ []
    at true rest = ap (λ zs. y ∷ zs) rest
    at false rest = rest

pub unsent_finished : (xs : List CapSnap) (size mtime : ℕ) → unsent (finished size mtime xs) ≡ finished size mtime (unsent xs)
unsent_finished [] size mtime = refl
unsent_finished (x ∷ xs) size mtime = rw (tid-fixed size mtime x) (at (is_unsent x) (unsent_finished xs size mtime))
  where
    at : (b : Bool) → unsent (finished size mtime xs) ≡ finished size mtime (unsent xs)
        → cond b (fixed size mtime x ∷ unsent (finished size mtime xs)) (unsent (finished size mtime xs)) ≡ finished size mtime (cond b (x ∷ unsent xs) (unsent xs))
    at true rest = ap (λ zs. fixed size mtime x ∷ zs) rest
    at false rest = rest

pub unsent_sent : (xs : List CapSnap) (tid : ℕ) → unsent (with_first_sent tid xs) ≡ drop 1 (unsent xs)
unsent_sent [] tid = refl
unsent_sent (x ∷ xs) tid = at (is_unsent x) refl (unsent_sent xs tid)
  where
    at : (b : Bool) → is_unsent x ≡ b → unsent (with_first_sent tid xs) ≡ drop 1 (unsent xs)
        → unsent (cond b (sent_as tid x ∷ xs) (x ∷ with_first_sent tid xs)) ≡ drop 1 (cond b (x ∷ unsent xs) (unsent xs))
    at true is rest = refl
    at false is rest = rw is rest

pub unsent_left : (xs : List CapSnap) (tid : ℕ) → unsent (without_tid tid xs) ≡ unsent xs
unsent_left [] tid = refl
unsent_left (x ∷ xs) tid = at (is_sent_as tid x) refl (unsent_left xs tid)
  where
    more : (b : Bool) → unsent (without_tid tid xs) ≡ unsent xs → cond b (x ∷ unsent (without_tid tid xs)) (unsent (without_tid tid xs)) ≡ cond b (x ∷ unsent xs) (unsent xs)
    more true rest = ap (λ zs. x ∷ zs) rest
    more false rest = rest

    at : (b : Bool) → is_sent_as tid x ≡ b → unsent (without_tid tid xs) ≡ unsent xs → unsent (cond b xs (x ∷ without_tid tid xs)) ≡ unsent (x ∷ xs)
    at true is rest = rw (was_sent tid x is) refl
    at false is rest = more (is_unsent x) rest

-- one that is writing isn't sent
pub unsent_writing : (xs : List CapSnap) → IsInOrder xs → is_writing (unsent xs) ≡ is_writing xs
unsent_writing [] o = refl
unsent_writing (x ∷ xs) o = at (is_unsent x) refl (unsent_writing xs o.2)
  where
    sent : (w : Bool) → (w ≡ true → is_unsent x ≡ true) → is_unsent x ≡ false → is_writing xs ≡ (w || is_writing xs)
    sent true unsent is = absurd (false≢true (sym is ∙ unsent refl))
    sent false unsent is = refl

    at : (b : Bool) → is_unsent x ≡ b → is_writing (unsent xs) ≡ is_writing xs → is_writing (cond b (x ∷ unsent xs) (unsent xs)) ≡ (x.writing || is_writing xs)
    at true is rest = ap (λ b. x.writing || b) rest
    at false is rest = rest ∙ sent x.writing o.0 is

pub unsent_first : (xs : List CapSnap) → first_unsent xs ≡ slice_get (unsent xs) 0
unsent_first [] = refl
unsent_first (x ∷ xs) = at (is_unsent x) (unsent_first xs)
  where
    at : (b : Bool) → first_unsent xs ≡ slice_get (unsent xs) 0 → cond b (Some x) (first_unsent xs) ≡ slice_get (cond b (x ∷ unsent xs) (unsent xs)) 0
    at true rest = refl
    at false rest = rest

-- where none is writing there is no context
pub context_none : (xs : List CapSnap) → is_writing xs ≡ false → writing_context xs ≡ None
context_none [] none = refl
context_none (y ∷ ys) none = let parts = or_parts y.writing (is_writing ys) none in rw parts.0 (context_none ys parts.1)
