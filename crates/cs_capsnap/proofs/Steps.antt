-- What a queue's order says of its last cap snap, and of the first unsent one.
use Rattle.std.proofs.Common.{◌≡◌, ℕ, zero, suc, ◌-◌, ◌<◌, Bool, true, false, cond, List, [], ◌∷◌, Option, Some, None, IsSome, IfSome, ◌↔◌, Bor, length, get_or, set, slice_get, refl, sym, ◌∙◌, ap, arith}
use Rattle.std.specs.List.{position_or_len}
use Rattle.std.specs.Option.{option_copied}
use Rattle.std.proofs.Math.Bool.{or-false}
use Rattle.std.proofs.lemmas.Option.{slice_get_past, slice_get_read}
use Rattle.std.proofs.lemmas.List.Folds.{find_at}
use Rattle.cs_capsnap.specs.declared.snap.CapSnap.{CapSnap}
use Rattle.cs_capsnap.specs.CapSnaps.{fixed, finished, is_unsent, first_unsent, is_writing, writing_snap}
use Rattle.cs_capsnap.specs.Order.{IsInOrder}

-- what a look-up gives
pub looked_up : {X : Type 0} (xs : List X) (n i : ℕ) (r : Option (Bor X)) → n ≡ length xs → IsSome r ↔ (i < n) → IfSome r (λ x. x.now ≡ get_or xs i x.now)
    → option_copied r ≡ slice_get xs i
looked_up xs n i None l v x = sym (slice_get_past xs i (grind arith))
looked_up xs n i (Some b) l v x = sym (slice_get_read xs n i b.now l (v.0 refl) x)

-- the place of the first unsent one
pub first_unsent_at : (xs : List CapSnap) (n : ℕ) → position_or_len is_unsent xs ≡ n → first_unsent xs ≡ slice_get xs n
first_unsent_at xs n e = find_at is_unsent xs ∙ ap (slice_get xs) e

-- only the last may be writing
writing_snap_at : (n : ℕ) (xs : List CapSnap) (x : CapSnap) → IsInOrder xs → length xs ≡ suc n → x ≡ get_or xs n x
    → writing_snap xs ≡ cond x.writing (Some x) None
writing_snap_at n [] x o l e = absurd (omega arith)
writing_snap_at zero (y ∷ []) x o l e = rw e refl
writing_snap_at (suc n) (y ∷ []) x o l e = absurd (omega arith)
writing_snap_at zero (y ∷ z ∷ zs) x o l e = absurd (omega arith)
writing_snap_at (suc n) (y ∷ z ∷ zs) x o l e = rw o.1.0.closed (writing_snap_at n (z ∷ zs) x o.2 (omega arith) e)

is_writing_at : (n : ℕ) (xs : List CapSnap) (x : CapSnap) → IsInOrder xs → length xs ≡ suc n → x ≡ get_or xs n x → is_writing xs ≡ x.writing
is_writing_at n [] x o l e = absurd (omega arith)
is_writing_at zero (y ∷ []) x o l e = rw e (or-false y.writing)
is_writing_at (suc n) (y ∷ []) x o l e = absurd (omega arith)
is_writing_at zero (y ∷ z ∷ zs) x o l e = absurd (omega arith)
is_writing_at (suc n) (y ∷ z ∷ zs) x o l e = rw o.1.0.closed (is_writing_at n (z ∷ zs) x o.2 (omega arith) e)

pub last_may_write : (xs : List CapSnap) (x : CapSnap) (n : ℕ) → IsInOrder xs → n ≡ length xs → 0 < n → x ≡ get_or xs (n - 1) x
    → writing_snap xs ≡ cond x.writing (Some x) None
last_may_write xs x n o l p e = writing_snap_at (n - 1) xs x o (omega arith) e

pub last_writes : (xs : List CapSnap) (x : CapSnap) (n : ℕ) → IsInOrder xs → n ≡ length xs → 0 < n → x ≡ get_or xs (n - 1) x → is_writing xs ≡ x.writing
last_writes xs x n o l p e = is_writing_at (n - 1) xs x o (omega arith) e

-- there is one where one is writing
pub some_writes : (xs : List CapSnap) → is_writing xs ≡ true → 0 < length xs
some_writes [] w = absurd cc
some_writes (x ∷ xs) w = omega arith

-- the end of a writing changes the last alone
pub fixed_once : (size mtime : ℕ) (x : CapSnap) → x.writing ≡ false → fixed size mtime x ≡ x
fixed_once size mtime x e = at x.writing e
  where
    at : (b : Bool) → b ≡ false → cond b (record x { meta = record x.meta { size = size; mtime = mtime }; writing = false }) x ≡ x
    at true e = absurd cc
    at false e = refl

finished_at : (n : ℕ) (xs : List CapSnap) (x : CapSnap) (size mtime : ℕ) → IsInOrder xs → length xs ≡ suc n → x ≡ get_or xs n x
    → finished size mtime xs ≡ set xs n (fixed size mtime x)
finished_at n [] x s m o l e = absurd (omega arith)
finished_at zero (y ∷ []) x s m o l e = rw e refl
finished_at (suc n) (y ∷ []) x s m o l e = absurd (omega arith)
finished_at zero (y ∷ z ∷ zs) x s m o l e = absurd (omega arith)
finished_at (suc n) (y ∷ z ∷ zs) x s m o l e =
    let kept = fixed_once s m y o.1.0.closed in
    let rest = finished_at n (z ∷ zs) x s m o.2 (omega arith) e in
    λ i. kept i ∷ rest i

pub last_finishes : (xs : List CapSnap) (x : CapSnap) (n size mtime : ℕ) → IsInOrder xs → n ≡ length xs → is_writing xs ≡ true → x ≡ get_or xs (n - 1) x
    → finished size mtime xs ≡ set xs (n - 1) (record x { meta = record x.meta { size = size; mtime = mtime }; writing = false })
last_finishes xs x n size mtime o l w e =
    let some = some_writes xs w in
    let open_still : x.writing ≡ true = sym (is_writing_at (n - 1) xs x o (omega arith) e) ∙ w in
    finished_at (n - 1) xs x size mtime o (omega arith) e ∙ ap (set xs (n - 1)) (rw open_still refl)
