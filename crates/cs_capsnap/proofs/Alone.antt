-- Each step changes one cap snap alone.
use Rattle.std.proofs.Common.{◌≡◌, ℕ, Bool, true, false, cond, List, [], ◌∷◌, ◌++◌, Option, Some, None, refl, ap, eq-eqb}
use Rattle.std.proofs.lemmas.Bool.{or_parts}
use Rattle.cs_capsnap.specs.declared.snap.CapSnap.{CapSnap}
use Rattle.cs_capsnap.specs.CapSnaps.{finished, first_unsent, fixed, has_tid, is_sent_as, is_unsent, is_writing, sent_as, with_first_sent, without_tid}
use Rattle.cs_capsnap.specs.Order.{IsInOrder}
use Rattle.cs_capsnap.proofs.Steps.{fixed_once}

pub last_alone : (xs : List CapSnap) (x : CapSnap) → IsInOrder (xs ++ x ∷ []) → is_writing xs ≡ false
last_alone [] x o = refl
last_alone (y ∷ []) x o = rw o.1.0.closed refl
last_alone (y ∷ z ∷ zs) x o = rw o.1.0.closed (last_alone (z ∷ zs) x o.2)

pub finish_alone : (xs : List CapSnap) (x : CapSnap) (size mtime : ℕ) → is_writing xs ≡ false → finished size mtime (xs ++ x ∷ []) ≡ xs ++ fixed size mtime x ∷ []
finish_alone [] x size mtime w = refl
finish_alone (y ∷ ys) x size mtime w =
    let parts = or_parts y.writing (is_writing ys) w in
    let kept = fixed_once size mtime y parts.0 in
    let rest = finish_alone ys x size mtime parts.1 in
    λ i. kept i ∷ rest i

none_if : (b : Bool) (x : CapSnap) (o : Option CapSnap) → cond b (Some x) o ≡ None → (b ≡ false) × (o ≡ None)
none_if true x o e = absurd cc
none_if false x o e = (refl, e)

pub sent_alone : (xs ys : List CapSnap) (x : CapSnap) (tid : ℕ) → first_unsent xs ≡ None → x.tid ≡ None → with_first_sent tid (xs ++ x ∷ ys) ≡ xs ++ sent_as tid x ∷ ys
sent_alone [] ys x tid e n =
    let unsent : is_unsent x ≡ true = rw n refl in
    ap (λ b. cond b (sent_as tid x ∷ ys) (x ∷ with_first_sent tid ys)) unsent
sent_alone (z ∷ zs) ys x tid e n =
    let parts = none_if (is_unsent z) z (first_unsent zs) e in
    rw parts.0 (ap (λ us. z ∷ us) (sent_alone zs ys x tid parts.1 n))

pub acked_alone : (xs ys : List CapSnap) (x : CapSnap) (tid : ℕ) → has_tid tid xs ≡ false → x.tid ≡ Some tid → without_tid tid (xs ++ x ∷ ys) ≡ xs ++ ys
acked_alone [] ys x tid h e =
    let sent : is_sent_as tid x ≡ true = rw e (eq-eqb tid tid refl) in
    ap (λ b. cond b ys (x ∷ without_tid tid ys)) sent
acked_alone (z ∷ zs) ys x tid h e =
    let parts = or_parts (is_sent_as tid z) (has_tid tid zs) h in
    rw parts.0 (ap (λ us. z ∷ us) (acked_alone zs ys x tid parts.1 e))
