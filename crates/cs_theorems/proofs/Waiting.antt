-- A file's cap snaps that were sent and aren't acknowledged, beside the flushes of cap snaps that were sent. What holds of one file at one
-- moment is a record over its values: its queue, the flushes that were sent, and which of the file's are acknowledged.
use Rattle.std.proofs.Common.{◌≡◌, refl, sym, ap, ◌∙◌, subst, ℕ, Bool, true, false, cond, ◌==◌, List, [], ◌∷◌, ◌++◌, Option, Some, None, is_none, map, inl, inr}
use Rattle.std.specs.Option.{option_map_or}
use Rattle.std.proofs.lemmas.Bool.{both_ways, cond_both, eqb-true, eq-eqb, false≢true, ne_eqb}
use Rattle.cs_capsnap.specs.declared.snap.CapSnap.{CapSnap}
use Rattle.cs_capsnap.specs.CapSnaps.{fixed, finished, first_unsent, is_sent_as, is_unsent, sent_as, with_first_sent, without_tid}
use Rattle.cs_capsnap.specs.Order.{IsInOrder}
use Rattle.cs_capsnap.proofs.Order.{none_left, tid-fixed}
use Rattle.cs_laws.specs.Flushes.{Flush}
use Rattle.cs_theorems.proofs.Listed.{Member, Each, each_cons, each_end, each_nil, each_tail, member_left}
use Rattle.cs_theorems.proofs.Tests.{any_none, member_end}

-- a cap snap of the queue was sent in the flush
pub record InQueue (x : Flush) (xs : List CapSnap) : Type 0 where
  pub snap : CapSnap
  pub there : Member snap xs
  pub tid : snap.tid ≡ Some x.tid
  pub follows : snap.context.seq ≡ x.follows

-- the flush of a cap snap of the file was sent with this number, and follows the other one
pub record WasSent (f t s : ℕ) (ss : List Flush) : Type 0 where
  pub flush : Flush
  pub there : Member flush ss
  pub file : flush.file ≡ f
  pub snap : flush.snap ≡ true
  pub tid : flush.tid ≡ t
  pub follows : flush.follows ≡ s

-- where the cap snap was sent, its flush was sent and isn't acknowledged
abbrev pub IsSent : ℕ → List Flush → (ℕ → Bool) → CapSnap → Type 0
IsSent f ss acked y = (t : ℕ) → y.tid ≡ Some t → WasSent f t y.context.seq ss × (acked t ≡ false)

abbrev pub Stays : ℕ → List CapSnap → (ℕ → Bool) → Flush → Type 0
Stays f xs acked x = x.file ≡ f → x.snap ≡ true → acked x.tid ≡ false → InQueue x xs

pub record Waiting (f : ℕ) (xs : List CapSnap) (ss : List Flush) (acked : ℕ → Bool) : Type 0 where
  pub sent : Each (Stays f xs acked) ss
  pub queued : Each (IsSent f ss acked) xs

pub waiting_first : (f : ℕ) (acked : ℕ → Bool) → Waiting f [] [] acked
waiting_first f acked = record { sent = each_nil (Stays f [] acked); queued = each_nil (IsSent f [] acked) }

unsent_since : (t : ℕ) (y : CapSnap) → y.tid ≡ None → y.tid ≡ Some t → ⊥
unsent_since t y none some = not_some (sym none ∙ some)
  where
    not_some : None ≡ Some t → ⊥
    not_some e = cc

-- A cap snap is made
pub waiting_made : (f : ℕ) (xs : List CapSnap) (ss : List Flush) (acked : ℕ → Bool) (y : CapSnap) → y.tid ≡ None → Waiting f xs ss acked
    → Waiting f (xs ++ y ∷ []) ss acked
waiting_made f xs ss acked y new i = record {
  sent = λ x m own snap free.
      let j : InQueue x xs = i.sent x m own snap free in
      record { snap = j.snap; there = member_left j.snap xs (y ∷ []) j.there; tid = j.tid; follows = j.follows };
  queued = each_end (IsSent f ss acked) xs y i.queued (λ t is. absurd (unsent_since t y new is));
}

-- The writing one is finished

context_fixed : (size mtime : ℕ) (x : CapSnap) → (fixed size mtime x).context.seq ≡ x.context.seq
context_fixed size mtime x = at x.writing
  where
    at : (b : Bool) → (cond b (record x { meta = record x.meta { size = size; mtime = mtime }; writing = false }) x).context.seq ≡ x.context.seq
    at true = refl
    at false = refl

member_map : {A B : Type 0} (F : A → B) (x : A) (xs : List A) → Member x xs → Member (F x) (map F xs)
member_map F x [] m = m
member_map F x (y ∷ ys) (inl is) = inl (ap F is)
member_map F x (y ∷ ys) (inr m) = inr (member_map F x ys m)

each_map : {A B : Type 0} (P : B → Type 0) (F : A → B) (xs : List A) → Each (λ x. P (F x)) xs → Each P (map F xs)
each_map P F [] all = each_nil P
each_map P F (x ∷ xs) all = each_cons P (F x) (map F xs) (all x (inl refl)) (each_map P F xs (each_tail (λ y. P (F y)) x xs all))

pub waiting_finished : (f : ℕ) (xs : List CapSnap) (ss : List Flush) (acked : ℕ → Bool) (size mtime : ℕ) → Waiting f xs ss acked
    → Waiting f (finished size mtime xs) ss acked
waiting_finished f xs ss acked size mtime i = record {
  sent = λ x m own snap free.
      let j : InQueue x xs = i.sent x m own snap free in
      record {
        snap = fixed size mtime j.snap;
        there = member_map (fixed size mtime) j.snap xs j.there;
        tid = tid-fixed size mtime j.snap ∙ j.tid;
        follows = context_fixed size mtime j.snap ∙ j.follows;
      };
  queued = each_map (IsSent f ss acked) (fixed size mtime) xs (λ y m t is.
      let j = i.queued y m t (sym (tid-fixed size mtime y) ∙ is) in
      (subst (λ s. WasSent f t s ss) (sym (context_fixed size mtime y)) j.0, j.1));
}

-- The first unsent one is sent

unsent_tid : (o : Option ℕ) → is_none o ≡ true → o ≡ None
unsent_tid None e = refl
unsent_tid (Some u) e = absurd (false≢true e)

sent_keeps : (n t : ℕ) (y : CapSnap) (xs : List CapSnap) → y.tid ≡ Some t → Member y xs → Member y (with_first_sent n xs)
sent_keeps n t y [] is m = m
sent_keeps n t y (x ∷ xs) is (inl same) =
    cond_both (is_unsent x) (sent_as n x ∷ xs) (x ∷ with_first_sent n xs) (λ zs. Member y zs)
    (λ new. absurd (unsent_since t y (unsent_tid y.tid (subst (λ z. is_unsent z ≡ true) same new)) is))
    (λ _. inl same)
sent_keeps n t y (x ∷ xs) is (inr m) =
    cond_both (is_unsent x) (sent_as n x ∷ xs) (x ∷ with_first_sent n xs) (λ zs. Member y zs) (λ _. inr m) (λ _. inr (sent_keeps n t y xs is m))

sent_first : (n : ℕ) (z : CapSnap) (xs : List CapSnap) → first_unsent xs ≡ Some z → Member (sent_as n z) (with_first_sent n xs)
sent_first n z [] is = absurd cc
sent_first n z (x ∷ xs) is = at (is_unsent x) is (λ e. sent_first n z xs e)
  where
    at : (b : Bool) → cond b (Some x) (first_unsent xs) ≡ Some z → (first_unsent xs ≡ Some z → Member (sent_as n z) (with_first_sent n xs))
        → Member (sent_as n z) (cond b (sent_as n x ∷ xs) (x ∷ with_first_sent n xs))
    at true e rest = let same : x ≡ z = cc in inl (ap (sent_as n) same)
    at false e rest = inr (rest e)

sent_each : (P : CapSnap → Type 0) (n : ℕ) (xs : List CapSnap) → Each P xs → ((z : CapSnap) → first_unsent xs ≡ Some z → P (sent_as n z))
    → Each P (with_first_sent n xs)
sent_each P n [] all new = each_nil P
sent_each P n (x ∷ xs) all new = at (is_unsent x) new (λ own. sent_each P n xs (each_tail P x xs all) own)
  where
    at : (b : Bool) → ((z : CapSnap) → cond b (Some x) (first_unsent xs) ≡ Some z → P (sent_as n z))
        → (((z : CapSnap) → first_unsent xs ≡ Some z → P (sent_as n z)) → Each P (with_first_sent n xs))
        → Each P (cond b (sent_as n x ∷ xs) (x ∷ with_first_sent n xs))
    at true own rest = each_cons P (sent_as n x) xs (own x refl) (each_tail P x xs all)
    at false own rest = each_cons P x (with_first_sent n xs) (all x (inl refl)) (rest own)

pub waiting_sent : (f n : ℕ) (xs : List CapSnap) (ss : List Flush) (acked : ℕ → Bool) (x : Flush) (z : CapSnap) → x.file ≡ f → x.snap ≡ true → x.tid ≡ n
    → acked n ≡ false → first_unsent xs ≡ Some z → z.context.seq ≡ x.follows → Waiting f xs ss acked
    → Waiting f (with_first_sent n xs) (ss ++ x ∷ []) acked
waiting_sent f n xs ss acked x z own snap tid free first follows i = record {
  sent = each_end (Stays f (with_first_sent n xs) acked) ss x
      (λ y m is of_snap unacked.
      let j : InQueue y xs = i.sent y m is of_snap unacked in
      record { snap = j.snap; there = sent_keeps n y.tid j.snap xs j.tid j.there; tid = j.tid; follows = j.follows })
      (λ _ _ _. record { snap = sent_as n z; there = sent_first n z xs first; tid = ap (λ k. Some k) (sym tid); follows = follows });
  queued = sent_each (IsSent f (ss ++ x ∷ []) acked) n xs
      (λ y m t is. let j = i.queued y m t is in (was_more x j.0, j.1))
      (λ y is t same.
      let now : n ≡ t = some_same same in (
        record {
          flush = x;
          there = member_end x ss;
          file = own;
          snap = snap;
          tid = tid ∙ now;
          follows = sym follows ∙ ap (λ (c : CapSnap). c.context.seq) (some_snap (sym first ∙ is));
        },
        subst (λ k. acked k ≡ false) now free,
      ));
}
  where
    some_same : {m k : ℕ} → Some m ≡ Some k → m ≡ k
    some_same e = cc

    some_snap : {a b : CapSnap} → Some a ≡ Some b → a ≡ b
    some_snap e = cc

    was_more : {t s : ℕ} {fs : List Flush} (y : Flush) → WasSent f t s fs → WasSent f t s (fs ++ y ∷ [])
    was_more y j = record { flush = j.flush; there = member_left j.flush _ (y ∷ []) j.there; file = j.file; snap = j.snap; tid = j.tid; follows = j.follows }

-- a flush that is none of a cap snap of the file is sent
pub waiting_beside : (f : ℕ) (xs : List CapSnap) (ss : List Flush) (acked : ℕ → Bool) (x : Flush) → (x.file ≡ f → x.snap ≡ true → ⊥) → Waiting f xs ss acked
    → Waiting f xs (ss ++ x ∷ []) acked
waiting_beside f xs ss acked x other i = record {
  sent = each_end (Stays f xs acked) ss x i.sent (λ own snap _. absurd (other own snap));
  queued = λ y m t is.
      let j = i.queued y m t is in
      (record { flush = j.0.flush; there = member_left j.0.flush ss (x ∷ []) j.0.there; file = j.0.file; snap = j.0.snap; tid = j.0.tid; follows = j.0.follows }, j.1);
}

-- One is acknowledged

sent_under : (t : ℕ) (y : CapSnap) (n : ℕ) → y.tid ≡ Some n → is_sent_as t y ≡ (n == t)
sent_under t y n is = ap (λ o. option_map_or (λ k. k == t) o false) is

left_keeps : (t : ℕ) (y : CapSnap) (xs : List CapSnap) → is_sent_as t y ≡ false → Member y xs → Member y (without_tid t xs)
left_keeps t y [] other m = m
left_keeps t y (x ∷ xs) other (inl same) =
    cond_both (is_sent_as t x) xs (x ∷ without_tid t xs) (λ zs. Member y zs)
    (λ now. absurd (both_ways (is_sent_as t y) other (subst (λ z. is_sent_as t z ≡ true) same now)))
    (λ _. inl same)
left_keeps t y (x ∷ xs) other (inr m) =
    cond_both (is_sent_as t x) xs (x ∷ without_tid t xs) (λ zs. Member y zs) (λ _. m) (λ _. inr (left_keeps t y xs other m))

left_each : (P : CapSnap → Type 0) (t : ℕ) (xs : List CapSnap) → Each P xs → Each P (without_tid t xs)
left_each P t [] all = all
left_each P t (x ∷ xs) all =
    cond_both (is_sent_as t x) xs (x ∷ without_tid t xs) (λ zs. Each P zs) (λ _. each_tail P x xs all)
    (λ _. each_cons P x (without_tid t xs) (all x (inl refl)) (left_each P t xs (each_tail P x xs all)))

-- what is acknowledged once this number is
abbrev pub now_acked : ℕ → (ℕ → Bool) → ℕ → Bool
now_acked t acked n = cond (t == n) true (acked n)

pub other_acked : (t n : ℕ) (acked : ℕ → Bool) → now_acked t acked n ≡ false → ((n == t) ≡ false) × (acked n ≡ false)
other_acked t n acked = at (t == n) refl
  where
    at : (b : Bool) → (t == n) ≡ b → cond b true (acked n) ≡ false → ((n == t) ≡ false) × (acked n ≡ false)
    at true is e = absurd (false≢true (sym e))
    at false is e = (ne_eqb n t (λ same. both_ways (t == n) is (eq-eqb t n (sym same))), e)

pub still_free : (t n : ℕ) (acked : ℕ → Bool) → (n == t) ≡ false → acked n ≡ false → now_acked t acked n ≡ false
still_free t n acked other free =
    cond_both (t == n) true (acked n) (λ b. b ≡ false) (λ same. absurd (both_ways (n == t) other (eq-eqb n t (sym (eqb-true t n same))))) (λ _. free)

pub waiting_left : (f t : ℕ) (xs : List CapSnap) (ss : List Flush) (acked : ℕ → Bool) → IsInOrder xs → Waiting f xs ss acked
    → Waiting f (without_tid t xs) ss (now_acked t acked)
waiting_left f t xs ss acked order i = record {
  sent = λ x m own snap free.
      let parts = other_acked t x.tid acked free in
      let j : InQueue x xs = i.sent x m own snap parts.1 in
      record {
        snap = j.snap;
        there = left_keeps t j.snap xs (sent_under t j.snap x.tid j.tid ∙ parts.0) j.there;
        tid = j.tid;
        follows = j.follows;
      };
  queued = λ y m n is.
      let j = left_each (IsSent f ss acked) t xs i.queued y m n is in
      (j.0, still_free t n acked (sym (sent_under t y n is) ∙ any_none (is_sent_as t) (without_tid t xs) (none_left t xs order) y m) j.1);
}
