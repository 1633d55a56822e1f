-- No unacknowledged flush of a file has the number of one of a cap snap.
use Rattle.std.proofs.Common.{◌≡◌, ℕ, ◌<◌, ◌==◌, ◌||◌, Bool, true, false, cond, List, [], ◌∷◌, ◌++◌, Option, Some, None, unwrap_or, refl, ◌∙◌, ap, arith}
use Rattle.std.specs.Option.{option_map, option_map_or}
use Rattle.std.specs.List.{cons_option}
use Rattle.std.proofs.lemmas.Bool.{ne_eqb, or_parts}
use Rattle.std.proofs.lemmas.List.Elements.{All-nil, All-cons, All-filter, All-push, All-weaker}
use Rattle.cs_capsnap.specs.declared.snap.CapSnap.{CapSnap}
use Rattle.cs_capsnap.specs.CapSnaps as snaps
use Rattle.cs_capsnap.specs.CapSnaps.{finished, flush, follows, has_tid, is_sent_as, is_unsent, sent_as, unacked, with_first_sent, without_tid}
use Rattle.cs_capsnap.proofs.Order.{tid-fixed}
use Rattle.cs_flush.specs.declared.sent.Sent.{Sent}
use Rattle.cs_flush.specs.Flushes as flushes
use Rattle.cs_flush.specs.Flushes.{after_ack, retired}
use Rattle.cs_flush.proofs.Rising.{below_next}
use Rattle.cs_inode.specs.Inodes.{AreApart}
use Rattle.cs_inode.proofs.Merging.{AllUntold, IsUntold, Told}

-- What each call does to a number that no cap snap was sent under

absent_above : (xs : List CapSnap) (tid : ℕ) → snaps.greatest_tid xs < tid → has_tid tid xs ≡ false
absent_above [] tid l = refl
absent_above (x ∷ xs) tid l = rw (at x.tid (omega arith)) (absent_above xs tid (omega arith))
  where
    at : (o : Option ℕ) → unwrap_or o 0 < tid → option_map_or (λ t. t == tid) o false ≡ false
    at None k = refl
    at (Some t) k = ne_eqb t tid (λ e. omega arith)

absent_finished : (n size mtime : ℕ) (xs : List CapSnap) → has_tid n (finished size mtime xs) ≡ has_tid n xs
absent_finished n size mtime [] = refl
absent_finished n size mtime (x ∷ xs) = rw (tid-fixed size mtime x) (ap (λ b. is_sent_as n x || b) (absent_finished n size mtime xs))

absent_sent : (n tid : ℕ) (xs : List CapSnap) → n < tid → has_tid n xs ≡ false → has_tid n (with_first_sent tid xs) ≡ false
absent_sent n tid [] l h = refl
absent_sent n tid (x ∷ xs) l h =
    let parts = or_parts (is_sent_as n x) (has_tid n xs) h in
    at (is_unsent x) parts.0 parts.1 (absent_sent n tid xs l parts.1)
  where
    at : (b : Bool) → is_sent_as n x ≡ false → has_tid n xs ≡ false → has_tid n (with_first_sent tid xs) ≡ false
        → has_tid n (cond b (sent_as tid x ∷ xs) (x ∷ with_first_sent tid xs)) ≡ false
    at true first rest sent = rw (ne_eqb tid n (λ e. omega arith), rest) refl
    at false first rest sent = rw (first, sent) refl

absent_left : (n tid : ℕ) (xs : List CapSnap) → has_tid n xs ≡ false → has_tid n (without_tid tid xs) ≡ false
absent_left n tid [] h = refl
absent_left n tid (x ∷ xs) h =
    let parts = or_parts (is_sent_as n x) (has_tid n xs) h in
    at (is_sent_as tid x) parts.0 parts.1 (absent_left n tid xs parts.1)
  where
    at : (b : Bool) → is_sent_as n x ≡ false → has_tid n xs ≡ false → has_tid n (without_tid tid xs) ≡ false
        → has_tid n (cond b xs (x ∷ without_tid tid xs)) ≡ false
    at true first rest left = rest
    at false first rest left = rw (first, left) refl

-- Each call keeps them apart

pub apart_flushed : (us : List Sent) (u : Sent) (xs : List CapSnap) → snaps.greatest_tid xs < u.tid → AreApart us xs → AreApart (us ++ u ∷ []) xs
apart_flushed us u xs l a = All-push (λ x. has_tid x.tid xs ≡ false) us u a (absent_above xs u.tid l)

pub apart_finished : (us : List Sent) (size mtime : ℕ) (xs : List CapSnap) → AreApart us xs → AreApart us (finished size mtime xs)
apart_finished us size mtime xs a =
    All-weaker (λ u. has_tid u.tid xs ≡ false) (λ u. has_tid u.tid (finished size mtime xs) ≡ false) (λ u h. absent_finished u.tid size mtime xs ∙ h) us a

pub apart_sent : (us : List Sent) (tid : ℕ) (xs : List CapSnap) → flushes.greatest_tid us < tid → AreApart us xs → AreApart us (with_first_sent tid xs)
apart_sent us tid xs l a = λ k d m. absent_sent _ tid xs (below_next us tid l k d m) (a k d m)

pub apart_acked : (us : List Sent) (tid : ℕ) (xs : List CapSnap) → AreApart us xs → AreApart (after_ack tid us) (without_tid tid xs)
apart_acked us tid xs a =
    All-weaker (λ u. has_tid u.tid xs ≡ false) (λ u. has_tid u.tid (without_tid tid xs) ≡ false) (λ u h. absent_left u.tid tid xs h) (after_ack tid us)
    (at (flushes.has_tid tid us))
  where
    at : (b : Bool) → AreApart (cond b (retired tid us) us) xs
    at true = All-filter _ (λ u. has_tid u.tid xs ≡ false) us a
    at false = a

-- What is told of the cap snaps that were sent

untold : (n : ℕ) (xs : List CapSnap) → has_tid n xs ≡ false → IsUntold n (unacked xs)
untold n [] h = All-nil (λ u. (u.0 == n) ≡ false)
untold n (x ∷ xs) h =
    let parts = or_parts (is_sent_as n x) (has_tid n xs) h in
    at x.tid parts.0 (untold n xs parts.1)
  where
    at : (o : Option ℕ) → option_map_or (λ t. t == n) o false ≡ false → IsUntold n (unacked xs)
        → IsUntold n (cons_option (option_map {U = Told} (λ t. (t, follows x, x.meta)) o) (unacked xs))
    at None first rest = rest
    at (Some t) first rest = All-cons (λ u. (u.0 == n) ≡ false) (t, follows x, x.meta) (unacked xs) first rest

pub all_untold : (us : List Sent) (xs : List CapSnap) → AreApart us xs → AllUntold us (unacked xs)
all_untold us xs a = All-weaker (λ u. has_tid u.tid xs ≡ false) (λ u. IsUntold u.tid (unacked xs)) (λ u h. untold u.tid xs h) us a
