-- What each step does to the greatest number of a flush, and to the writing.
use Rattle.std.proofs.Common.{◌≡◌, ℕ, ◌≤◌, Bool, true, false, ◌||◌, cond, List, [], ◌∷◌, ◌++◌, None, unwrap_or, max, refl, sym, ◌∙◌, ap, arith}
use Rattle.std.proofs.Math.Bool.{or-false}
use Rattle.std.proofs.lemmas.Bool.{false≢true}
use Rattle.std.proofs.lemmas.List.Folds.{list_any-append}
use Rattle.cs_capsnap.specs.declared.snap.CapSnap.{CapSnap}
use Rattle.cs_capsnap.specs.CapSnaps.{finished, greatest_tid, is_sent_as, is_unsent, is_writing, sent_as, with_first_sent, without_tid}
use Rattle.cs_capsnap.specs.Order.{IsInOrder}
use Rattle.cs_capsnap.proofs.Order.{tid-fixed, writing-fixed, was_sent}

pub greatest_push : (xs : List CapSnap) (x : CapSnap) → x.tid ≡ None → greatest_tid (xs ++ x ∷ []) ≡ greatest_tid xs
greatest_push [] x e = rw e refl
greatest_push (y ∷ ys) x e = ap (max (unwrap_or y.tid 0)) (greatest_push ys x e)

pub greatest_finished : (xs : List CapSnap) (size mtime : ℕ) → greatest_tid (finished size mtime xs) ≡ greatest_tid xs
greatest_finished [] size mtime = refl
greatest_finished (x ∷ xs) size mtime = rw (tid-fixed size mtime x) (ap (max (unwrap_or x.tid 0)) (greatest_finished xs size mtime))

pub greatest_sent : (xs : List CapSnap) (tid : ℕ) → greatest_tid (with_first_sent tid xs) ≤ max tid (greatest_tid xs)
greatest_sent [] tid = omega arith
greatest_sent (x ∷ xs) tid = at (is_unsent x) (greatest_sent xs tid)
  where
    at : (b : Bool) → greatest_tid (with_first_sent tid xs) ≤ max tid (greatest_tid xs)
        → greatest_tid (cond b (sent_as tid x ∷ xs) (x ∷ with_first_sent tid xs)) ≤ max tid (greatest_tid (x ∷ xs))
    at true rest = omega arith
    at false rest = omega arith

pub greatest_left : (xs : List CapSnap) (tid : ℕ) → greatest_tid (without_tid tid xs) ≤ greatest_tid xs
greatest_left [] tid = omega arith
greatest_left (x ∷ xs) tid = at (is_sent_as tid x) (greatest_left xs tid)
  where
    at : (b : Bool) → greatest_tid (without_tid tid xs) ≤ greatest_tid xs → greatest_tid (cond b xs (x ∷ without_tid tid xs)) ≤ greatest_tid (x ∷ xs)
    at true rest = omega arith
    at false rest = omega arith

pub writing_push : (xs : List CapSnap) (x : CapSnap) → is_writing (xs ++ x ∷ []) ≡ (is_writing xs || x.writing)
writing_push xs x = list_any-append (λ y. y.writing) xs (x ∷ []) ∙ ap (λ b. is_writing xs || b) (or-false x.writing)

pub writing_finished : (xs : List CapSnap) (size mtime : ℕ) → is_writing (finished size mtime xs) ≡ false
writing_finished [] size mtime = refl
writing_finished (x ∷ xs) size mtime = rw (writing-fixed size mtime x) (writing_finished xs size mtime)

pub writing_sent : (xs : List CapSnap) (tid : ℕ) → is_writing (with_first_sent tid xs) ≡ is_writing xs
writing_sent [] tid = refl
writing_sent (x ∷ xs) tid = at (is_unsent x) (writing_sent xs tid)
  where
    at : (b : Bool) → is_writing (with_first_sent tid xs) ≡ is_writing xs
        → is_writing (cond b (sent_as tid x ∷ xs) (x ∷ with_first_sent tid xs)) ≡ (x.writing || is_writing xs)
    at true rest = refl
    at false rest = ap (λ b. x.writing || b) rest

pub writing_left : (xs : List CapSnap) (tid : ℕ) → IsInOrder xs → is_writing (without_tid tid xs) ≡ is_writing xs
writing_left [] tid o = refl
writing_left (x ∷ xs) tid o = at (is_sent_as tid x) refl (writing_left xs tid o.2)
  where
    done : (w : Bool) → (w ≡ true → is_unsent x ≡ true) → is_unsent x ≡ false → is_writing xs ≡ (w || is_writing xs)
    done true unsent sent = absurd (false≢true (sym sent ∙ unsent refl))
    done false unsent sent = refl

    at : (b : Bool) → is_sent_as tid x ≡ b → is_writing (without_tid tid xs) ≡ is_writing xs
        → is_writing (cond b xs (x ∷ without_tid tid xs)) ≡ (x.writing || is_writing xs)
    at true e rest = done x.writing o.0 (was_sent tid x e)
    at false e rest = ap (λ b. x.writing || b) rest
