-- The cap snaps that were sent and aren't acked.
use Rattle.std.proofs.Common.{◌≡◌, ℕ, zero, suc, ◌<◌, ◌≤◌, List, [], ◌∷◌, Option, Some, None, IsNone, ◌↔◌, length, get_or, slice_get, refl, ◌∙◌, arith}
use Rattle.std.specs.List.{AllByRecursion, cons_option}
use Rattle.std.specs.Option.{option_and_then, option_map}
use Rattle.cs_ids.specs.declared.objects.FileMeta.{FileMeta}
use Rattle.cs_capsnap.specs.declared.snap.CapSnap.{CapSnap}
use Rattle.cs_capsnap.specs.CapSnaps.{flush, unacked, unacked_tids}
use Rattle.cs_capsnap.specs.Order.{IsAscending, IsSentBefore, Precedes, IsInOrder}
use Rattle.cs_capsnap.proofs.Order.{before_unsent}

-- its number, what it follows and its metadata
abbrev pub Flush : Type 0
Flush = ℕ × ℕ × FileMeta

none_unacked : (x : CapSnap) (xs : List CapSnap) → x.tid ≡ None → AllByRecursion (Precedes x) xs → unacked xs ≡ []
none_unacked x [] e all = refl
none_unacked x (y ∷ ys) e all = rw (before_unsent x.tid y.tid e all.0.tids) (none_unacked x ys e all.1)

-- they stand in front, so a place among them is a place in the queue
at_front : (o : Option Flush) (us : List Flush) → (o ≡ None → us ≡ []) → slice_get (cons_option o us) 0 ≡ o
at_front None us none = rw (none refl) refl
at_front (Some u) us none = refl

behind : (o : Option Flush) (us : List Flush) (i : ℕ) → (o ≡ None → us ≡ []) → slice_get (cons_option o us) (suc i) ≡ slice_get us i
behind None us i none = rw (none refl) refl
behind (Some u) us i none = refl

unsent_from_flush : (x : CapSnap) → flush x ≡ None → x.tid ≡ None
unsent_from_flush x = at x.tid
  where
    at : (o : Option ℕ) → option_map {U = Flush} (λ t. (t, x.context.seq, x.meta)) o ≡ None → o ≡ None
    at None e = refl
    at (Some t) e = absurd cc

pub unacked_at : (i : ℕ) (xs : List CapSnap) → IsInOrder xs → slice_get (unacked xs) i ≡ option_and_then flush (slice_get xs i)
unacked_at i [] o = refl
unacked_at zero (x ∷ xs) o = at_front (flush x) (unacked xs) (λ e. none_unacked x xs (unsent_from_flush x e) o.1)
unacked_at (suc i) (x ∷ xs) o = behind (flush x) (unacked xs) i (λ e. none_unacked x xs (unsent_from_flush x e) o.1) ∙ unacked_at i xs o.2

pub none_past_end : (us : List Flush) (i : ℕ) (r : Option Flush) → r ≡ slice_get us i → IsNone r ↔ (length us ≤ i)
none_past_end us i r e = rw e (at us i)
  where
    at : (us : List Flush) (i : ℕ) → IsNone (slice_get us i) ↔ (length us ≤ i)
    at [] i = (λ _. omega arith, λ _. refl)
    at (u ∷ us) zero = (λ e. absurd cc, λ l. absurd (omega arith))
    at (u ∷ us) (suc i) = (λ e. omega (arith, (at us i).0 e), λ l. (at us i).1 (omega arith))

-- their numbers rise
above_at : (t : ℕ) (ns : List ℕ) (j d : ℕ) → AllByRecursion (λ n. t < n) ns → j < length ns → t < get_or ns j d
above_at t [] j d all l = absurd (omega arith)
above_at t (n ∷ ns) zero d all l = all.0
above_at t (n ∷ ns) (suc j) d all l = above_at t ns j d all.1 (omega arith)

ascending_cons : (t : ℕ) (ns : List ℕ) → AllByRecursion (λ n. t < n) ns → IsAscending ns
    → (i j d : ℕ) → i < j → j < length (t ∷ ns) → get_or (t ∷ ns) i d < get_or (t ∷ ns) j d
ascending_cons t ns all rest i zero d l m = absurd (omega arith)
ascending_cons t ns all rest zero (suc j) d l m = above_at t ns j d all (omega arith)
ascending_cons t ns all rest (suc i) (suc j) d l m = rest i j d (omega arith) (omega arith)

tids_unsent : (x : CapSnap) (xs : List CapSnap) → x.tid ≡ None → unacked_tids (x ∷ xs) ≡ unacked_tids xs
tids_unsent x xs e = rw e refl

tids_sent : (x : CapSnap) (xs : List CapSnap) (t : ℕ) → x.tid ≡ Some t → unacked_tids (x ∷ xs) ≡ t ∷ unacked_tids xs
tids_sent x xs t e = rw e refl

tids_above : (x : CapSnap) (t : ℕ) (xs : List CapSnap) → x.tid ≡ Some t → AllByRecursion (Precedes x) xs → AllByRecursion (λ n. t < n) (unacked_tids xs)
tids_above x t [] e all = tt
tids_above x t (y ∷ ys) e all = at y.tid refl all.0.tids (tids_above x t ys e all.1)
  where
    at : (o : Option ℕ) → y.tid ≡ o → IsSentBefore x.tid y.tid → AllByRecursion (λ n. t < n) (unacked_tids ys) → AllByRecursion (λ n. t < n) (unacked_tids (y ∷ ys))
    at None f b rest = rw (tids_unsent y ys f) rest
    at (Some u) f b rest = rw (tids_sent y ys u f) (rw (e, f) at b, rest)

pub tids_ascend : (xs : List CapSnap) → IsInOrder xs → IsAscending (unacked_tids xs)
tids_ascend [] o = λ i j d l m. absurd (omega arith)
tids_ascend (x ∷ xs) o = at x.tid refl (tids_ascend xs o.2)
  where
    at : (t : Option ℕ) → x.tid ≡ t → IsAscending (unacked_tids xs) → IsAscending (unacked_tids (x ∷ xs))
    at None e rest = rw (tids_unsent x xs e) rest
    at (Some t) e rest = rw (tids_sent x xs t e) (ascending_cons t (unacked_tids xs) (tids_above x t xs e o.1) rest)
