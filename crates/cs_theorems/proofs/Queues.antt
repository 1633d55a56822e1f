-- A file's queue as the client keeps it, beside the cap snaps that aren't sent. What holds of one file at one moment is a
-- record over its values: how many flushes were sent, the live references, its writes, its unsent cap snaps and its queue.
use Rattle.std.proofs.Common.{◌≡◌, refl, sym, ap, ◌∙◌, subst, ℕ, ◌+◌, ◌<◌, ◌≤◌, Bool, true, false, cond, not, nat_le, List, [], ◌∷◌, ◌++◌, Some, None, drop, inl, slice_get, arith}
use Rattle.std.specs.Option.{option_map_or}
use Rattle.std.proofs.lemmas.Bool.{cond-true, cond-false, false_from_ne_true, leb-true, le-leb}
use Rattle.cs_parts.specs.declared.references.Live.{Live}
use Rattle.cs_ids.specs.declared.objects.FileMeta.{FileMeta}
use Rattle.cs_capsnap.specs.declared.snap.CapSnap.{CapSnap as Snap}
use Rattle.cs_capsnap.specs.CapSnaps as kept
use Rattle.cs_capsnap.specs.Order.{IsInOrder}
use Rattle.cs_capsnap.proofs.Order.{order_push, order_finished, order_sent, order_left}
use Rattle.cs_capsnap.proofs.Changes.{greatest_push, greatest_finished, greatest_sent, greatest_left}
use Rattle.cs_laws.specs.CapSnaps.{CapSnap, is_open, is_writing}
use Rattle.cs_laws.specs.Flushes.{meta_upto, written_meta}
use Rattle.cs_laws.specs.Image.{Write, size, mtime, upto}
use Rattle.cs_theorems.proofs.Listed.{Each, each_tail}
use Rattle.cs_theorems.proofs.Unsent.{unsent, unsent_push, unsent_finished, unsent_sent, unsent_left, unsent_writing, unsent_first}

-- x is q as the client keeps it. Once it isn't written on, its metadata is that of the writes up to its number.
pub record IsSeen (rs : List Live) (ws : List Write) (x : Snap) (q : CapSnap) : Type 0 where
  pub follows : x.context.seq ≡ q.follows
  pub mode : x.meta.mode ≡ q.mode
  pub writing : x.writing ≡ is_open rs q
  pub meta : x.writing ≡ false → x.meta ≡ meta_upto q.follows q.mode ws

abbrev pub Seen : List Live → List Write → List Snap → List CapSnap → Type 0
Seen rs ws [] [] = Unit {0}
Seen rs ws [] (q ∷ qs) = ⊥
Seen rs ws (x ∷ xs) [] = ⊥
Seen rs ws (x ∷ xs) (q ∷ qs) = IsSeen rs ws x q × Seen rs ws xs qs

pub record Queue (n : ℕ) (rs : List Live) (ws : List Write) (qs : List CapSnap) (xs : List Snap) : Type 0 where
  pub seen : Seen rs ws (unsent xs) qs
  pub order : IsInOrder xs
  pub tids : kept.greatest_tid xs ≤ n

pub queue_empty : (n : ℕ) → Queue n [] [] [] []
queue_empty n = record { seen = tt; order = tt; tids = omega arith }

-- Which one is writing

seen_writing : (rs : List Live) (ws : List Write) (xs : List Snap) (qs : List CapSnap) → Seen rs ws xs qs → kept.is_writing xs ≡ is_writing rs qs
seen_writing rs ws [] [] i = refl
seen_writing rs ws [] (q ∷ qs) i = absurd i
seen_writing rs ws (x ∷ xs) [] i = absurd i
seen_writing rs ws (x ∷ xs) (q ∷ qs) i = rw (i.0.writing, seen_writing rs ws xs qs i.1) refl

pub writing_is : (n : ℕ) (rs : List Live) (ws : List Write) (qs : List CapSnap) (xs : List Snap) → Queue n rs ws qs xs
    → kept.is_writing xs ≡ is_writing rs qs
writing_is n rs ws qs xs i = sym (unsent_writing xs i.order) ∙ seen_writing rs ws (unsent xs) qs i.seen

-- The writes up to a number

pub upto_all : (q : ℕ) (ws : List Write) → Each (λ w. w.tag ≤ q) ws → upto q ws ≡ ws
upto_all q [] low = refl
upto_all q (w ∷ ws) low =
    cond-true (nat_le w.tag q) (w ∷ upto q ws) (upto q ws) (le-leb w.tag q (low w (inl refl)))
    ∙ ap (λ vs. w ∷ vs) (upto_all q ws (each_tail (λ v. v.tag ≤ q) w ws low))

pub upto_none : (q : ℕ) (w : Write) (ws : List Write) → q < w.tag → upto q (w ∷ ws) ≡ upto q ws
upto_none q w ws above =
    cond-false (nat_le w.tag q) (w ∷ upto q ws) (upto q ws)
    (false_from_ne_true (nat_le w.tag q) (λ low. let most : w.tag ≤ q = leb-true w.tag q low in absurd (omega (arith, most, above))))

pub written_upto : (q mode : ℕ) (ws : List Write) → Each (λ w. w.tag ≤ q) ws → written_meta mode ws ≡ meta_upto q mode ws
written_upto q mode ws low = ap (written_meta mode) (sym (upto_all q ws low))

-- References and writes change, and the cap snaps are as they were

-- the cap snap is open as before, and where it isn't, the writes up to its number are as before
pub record Stays (rs ts : List Live) (ws vs : List Write) (q : CapSnap) : Type 0 where
  pub same : is_open ts q ≡ is_open rs q
  pub meta : is_open rs q ≡ false → meta_upto q.follows q.mode ws ≡ meta_upto q.follows q.mode vs

seen_stays : (rs ts : List Live) (ws vs : List Write) (xs : List Snap) (qs : List CapSnap) → Each (Stays rs ts ws vs) qs → Seen rs ws xs qs → Seen ts vs xs qs
seen_stays rs ts ws vs [] [] stays i = tt
seen_stays rs ts ws vs [] (q ∷ qs) stays i = absurd i
seen_stays rs ts ws vs (x ∷ xs) [] stays i = absurd i
seen_stays rs ts ws vs (x ∷ xs) (q ∷ qs) stays i =
    let first : Stays rs ts ws vs q = stays q (inl refl) in (
      record {
        follows = i.0.follows;
        mode = i.0.mode;
        writing = i.0.writing ∙ sym first.same;
        meta = λ closed. i.0.meta closed ∙ first.meta (sym i.0.writing ∙ closed);
      },
      seen_stays rs ts ws vs xs qs (each_tail (Stays rs ts ws vs) q qs stays) i.1,
    )

pub queue_stays : (n : ℕ) (rs ts : List Live) (ws vs : List Write) (qs : List CapSnap) (xs : List Snap) → Each (Stays rs ts ws vs) qs
    → Queue n rs ws qs xs → Queue n ts vs qs xs
queue_stays n rs ts ws vs qs xs stays i = record { seen = seen_stays rs ts ws vs (unsent xs) qs stays i.seen; order = i.order; tids = i.tids }

-- A cap snap is made

seen_end : (rs : List Live) (ws : List Write) (xs : List Snap) (qs : List CapSnap) (x : Snap) (q : CapSnap) → Seen rs ws xs qs → IsSeen rs ws x q
    → Seen rs ws (xs ++ x ∷ []) (qs ++ q ∷ [])
seen_end rs ws [] [] x q i new = (new, tt)
seen_end rs ws [] (p ∷ qs) x q i new = absurd i
seen_end rs ws (y ∷ xs) [] x q i new = absurd i
seen_end rs ws (y ∷ xs) (p ∷ qs) x q i new = (i.0, seen_end rs ws xs qs x q i.1 new)

pub queue_made : (n : ℕ) (rs : List Live) (ws : List Write) (qs : List CapSnap) (xs : List Snap) (x : Snap) (q : CapSnap) → x.tid ≡ None
    → is_writing rs qs ≡ false → IsSeen rs ws x q → Queue n rs ws qs xs → Queue n rs ws (qs ++ q ∷ []) (xs ++ x ∷ [])
queue_made n rs ws qs xs x q new free is i = record {
  seen = subst (λ ys. Seen rs ws ys (qs ++ q ∷ [])) (sym (unsent_push xs x new)) (seen_end rs ws (unsent xs) qs x q i.seen is);
  order = order_push xs x new (writing_is n rs ws qs xs i ∙ free) i.order;
  tids = omega (arith, greatest_push xs x new, i.tids);
}

-- The last writer ends

-- the cap snap isn't open any more; where it was, all writes are up to its number
pub record Closes (rs ts : List Live) (ws : List Write) (q : CapSnap) : Type 0 where
  pub closed : is_open ts q ≡ false
  pub low : is_open rs q ≡ true → Each (λ w. w.tag ≤ q.follows) ws

seen_fixed : (rs ts : List Live) (ws : List Write) (x : Snap) (q : CapSnap) → Closes rs ts ws q → IsSeen rs ws x q
    → IsSeen ts ws (kept.fixed (size ws) (mtime ws) x) q
seen_fixed rs ts ws x q closes i = at x.writing refl
  where
    fixed_meta : FileMeta
    fixed_meta = record x.meta { size = size ws; mtime = mtime ws }

    at : (b : Bool) → x.writing ≡ b → IsSeen ts ws (cond b (record x { meta = fixed_meta; writing = false }) x) q
    at true written = record {
      follows = i.follows;
      mode = i.mode;
      writing = sym closes.closed;
      meta = λ _. ap (λ m. written_meta m ws) i.mode ∙ written_upto q.follows q.mode ws (closes.low (sym i.writing ∙ written));
    }
    at false done = record { follows = i.follows; mode = i.mode; writing = done ∙ sym closes.closed; meta = i.meta }

seen_finished : (rs ts : List Live) (ws : List Write) (xs : List Snap) (qs : List CapSnap) → Each (Closes rs ts ws) qs → Seen rs ws xs qs
    → Seen ts ws (kept.finished (size ws) (mtime ws) xs) qs
seen_finished rs ts ws [] [] closes i = tt
seen_finished rs ts ws [] (q ∷ qs) closes i = absurd i
seen_finished rs ts ws (x ∷ xs) [] closes i = absurd i
seen_finished rs ts ws (x ∷ xs) (q ∷ qs) closes i =
    (seen_fixed rs ts ws x q (closes q (inl refl)) i.0, seen_finished rs ts ws xs qs (each_tail (Closes rs ts ws) q qs closes) i.1)

pub queue_finished : (n : ℕ) (rs ts : List Live) (ws : List Write) (qs : List CapSnap) (xs : List Snap) → Each (Closes rs ts ws) qs
    → Queue n rs ws qs xs → Queue n ts ws qs (kept.finished (size ws) (mtime ws) xs)
queue_finished n rs ts ws qs xs closes i = record {
  seen = subst (λ ys. Seen ts ws ys qs) (sym (unsent_finished xs (size ws) (mtime ws))) (seen_finished rs ts ws (unsent xs) qs closes i.seen);
  order = order_finished (size ws) (mtime ws) xs i.order;
  tids = omega (arith, greatest_finished xs (size ws) (mtime ws), i.tids);
}

-- The first unsent one

pub record IsFirst (rs : List Live) (ws : List Write) (q : CapSnap) (xs : List Snap) : Type 0 where
  pub snap : Snap
  pub is : kept.first_unsent xs ≡ Some snap
  pub seen : IsSeen rs ws snap q

first_seen : (rs : List Live) (ws : List Write) (ys : List Snap) (q : CapSnap) (qs : List CapSnap) → Seen rs ws ys (q ∷ qs)
    → (x : Snap) × (slice_get ys 0 ≡ Some x) × IsSeen rs ws x q
first_seen rs ws [] q qs i = absurd i
first_seen rs ws (y ∷ ys) q qs i = (y, refl, i.0)

pub first_is : (n : ℕ) (rs : List Live) (ws : List Write) (q : CapSnap) (qs : List CapSnap) (xs : List Snap) → Queue n rs ws (q ∷ qs) xs
    → IsFirst rs ws q xs
first_is n rs ws q qs xs i =
    let first = first_seen rs ws (unsent xs) q qs i.seen in
    record { snap = first.0; is = unsent_first xs ∙ first.1; seen = first.2 }

none_seen : (rs : List Live) (ws : List Write) (ys : List Snap) → Seen rs ws ys [] → slice_get ys 0 ≡ None
none_seen rs ws [] i = refl
none_seen rs ws (y ∷ ys) i = absurd i

pub first_none : (n : ℕ) (rs : List Live) (ws : List Write) (xs : List Snap) → Queue n rs ws [] xs → kept.first_unsent xs ≡ None
first_none n rs ws xs i = unsent_first xs ∙ none_seen rs ws (unsent xs) i.seen

-- It is sent

seen_drop : (rs : List Live) (ws : List Write) (xs : List Snap) (qs : List CapSnap) → Seen rs ws xs qs → Seen rs ws (drop 1 xs) (drop 1 qs)
seen_drop rs ws [] [] i = tt
seen_drop rs ws [] (q ∷ qs) i = absurd i
seen_drop rs ws (x ∷ xs) [] i = absurd i
seen_drop rs ws (x ∷ xs) (q ∷ qs) i = i.1

pub queue_can : (n : ℕ) (rs : List Live) (ws : List Write) (q : CapSnap) (qs : List CapSnap) (xs : List Snap) → is_open rs q ≡ false
    → Queue n rs ws (q ∷ qs) xs → kept.can_send xs ≡ true
queue_can n rs ws q qs xs closed i =
    let first = first_is n rs ws q qs xs i in
    ap (λ o. option_map_or (λ (x : Snap). not x.writing) o false) first.is ∙ ap not (first.seen.writing ∙ closed)

pub queue_sent : (n : ℕ) (rs : List Live) (ws : List Write) (q : CapSnap) (qs now : List CapSnap) (xs : List Snap) → now ≡ q ∷ qs → is_open rs q ≡ false
    → Queue n rs ws now xs → Queue (n + 1) rs ws (drop 1 now) (kept.with_first_sent (n + 1) xs)
queue_sent n rs ws q qs now xs there closed i = record {
  seen = subst (λ ys. Seen rs ws ys (drop 1 now)) (sym (unsent_sent xs (n + 1))) (seen_drop rs ws (unsent xs) now i.seen);
  order = order_sent (n + 1) xs (queue_can n rs ws q qs xs closed (subst (λ ps. Queue n rs ws ps xs) there i)) (omega (arith, i.tids)) i.order;
  tids = omega (arith, greatest_sent xs (n + 1), i.tids);
}

-- another flush is sent
pub queue_more : (n k : ℕ) (rs : List Live) (ws : List Write) (qs : List CapSnap) (xs : List Snap) → n ≤ k → Queue n rs ws qs xs → Queue k rs ws qs xs
queue_more n k rs ws qs xs up i = record { seen = i.seen; order = i.order; tids = omega (arith, up, i.tids) }

-- One is acknowledged
pub queue_left : (n : ℕ) (rs : List Live) (ws : List Write) (qs : List CapSnap) (xs : List Snap) (tid : ℕ) → Queue n rs ws qs xs
    → Queue n rs ws qs (kept.without_tid tid xs)
queue_left n rs ws qs xs tid i = record {
  seen = subst (λ ys. Seen rs ws ys qs) (sym (unsent_left xs tid)) i.seen;
  order = order_left tid xs i.order;
  tids = omega (arith, greatest_left xs tid, i.tids);
}
