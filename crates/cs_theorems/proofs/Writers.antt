-- Laws of writers and cap snaps, from the order of tags at one moment.
use Rattle.std.proofs.Common.{◌≡◌, refl, sym, ◌∙◌, ℕ, ◌<◌, ◌≤◌, true, false, List, [], ◌∷◌, ◌++◌, arith, inl, inr, ⊎_elim, subst}
use Rattle.std.proofs.lemmas.Bool.{cases_Bool, cases_lt, cond-true, cond-false, both_ways, or_cases, or_parts}
use Rattle.cs_parts.specs.declared.references.Live.{Live}
use Rattle.cs_parts.specs.References.{is_writer_of}
use Rattle.cs_laws.specs.declared.answers.Entry.{Entry}
use Rattle.cs_laws.specs.CapSnaps.{CapSnap, is_open, is_writing}
use Rattle.cs_laws.specs.History.{context, live, queued, writes}
use Rattle.cs_laws.specs.Image.{Write}
use Rattle.cs_laws.specs.Events.{begun}
use Rattle.cs_theorems.specs.Order.{FollowsRise, HasOlder}
use Rattle.cs_theorems.specs.Snapshots.{TagsNeverFall, QueuesRise, WritingWhileOlder, OnlyTheLastIsWriting, WritersShareATag, FinishedSnapsAreNotWritten, shared_tag}
use Rattle.cs_theorems.proofs.Listed.{Member, Each, member_right}
use Rattle.cs_theorems.proofs.Opens.{Opens, open_has, older_opens}
use Rattle.cs_theorems.proofs.Order.{InOrder, Ordered, none_open}
use Rattle.cs_theorems.proofs.Tags.{at_present}

pub tags_fall : (h : List Entry) → Ordered h → TagsNeverFall h
tags_fall h i f = (i.1 f).tags.fall

pub queues_rise : (h : List Entry) → Ordered h → QueuesRise h
queues_rise h i f = ((i.1 f).tags.rise, (i.1 f).tags.queued_low)

pub writing_while_older : (h : List Entry) → Ordered h → WritingWhileOlder h
writing_while_older h i f x m =
    (open_has f (λ c. begun h c) (live h) (queued h f) x (i.1 f).opens m, older_opens f (λ c. begun h c) (live h) (queued h f) x (i.1 f).opens m)

-- the tags of the writers, while a cap snap is writing
pub tag_of_open : (f s : ℕ) (n : ℕ → ℕ) (rs : List Live) (ws : List Write) (xs : List CapSnap) (x : CapSnap) → InOrder f s n rs ws xs → Member x xs
    → is_open rs x ≡ true → Each (λ r. is_writer_of f r ≡ true → r.tag ≡ x.follows) rs
tag_of_open f s n rs ws xs x i m open_now r k w =
    let old : HasOlder f x.follows rs = open_has f n rs xs x i.opens m open_now in
    omega (arith, i.tags.same r k w old.0 old.1 old.2, old.3, i.tags.above r k w x m)

-- Only the last is writing

rises_within : (front : List CapSnap) (x y : CapSnap) (back : List CapSnap) → FollowsRise (front ++ x ∷ y ∷ back) → x.follows < y.follows
rises_within [] x y back up = up.0 y (inl refl)
rises_within (z ∷ front) x y back up = rises_within front x y back up.1

last_open : (f s : ℕ) (n : ℕ → ℕ) (rs : List Live) (ws : List Write) (front : List CapSnap) (x : CapSnap) (back : List CapSnap)
    → InOrder f s n rs ws (front ++ x ∷ back) → is_open rs x ≡ true → back ≡ []
last_open f s n rs ws front x [] i open_now = refl
last_open f s n rs ws front x (y ∷ back) i open_now =
    let old : HasOlder f x.follows rs = open_has f n rs _ x i.opens (member_right x front (x ∷ y ∷ back) (inl refl)) open_now in
    let above : y.follows ≤ old.0.tag = i.tags.above old.0 old.1 old.2 y (member_right y front (x ∷ y ∷ back) (inr (inl refl))) in
    absurd (omega (arith, rises_within front x y back i.tags.rise, above, old.3))

pub only_the_last : (h : List Entry) → Ordered h → OnlyTheLastIsWriting h
only_the_last h i f front x back is open_now =
    last_open f (context h f).seq (λ c. begun h c) (live h) (writes h f) front x back
    (subst (λ xs. InOrder f (context h f).seq (λ c. begun h c) (live h) (writes h f) xs) is (i.1 f)) open_now

-- Writers share a tag

shared_open : (f s : ℕ) (n : ℕ → ℕ) (rs : List Live) (ws : List Write) (xs ys : List CapSnap) → InOrder f s n rs ws xs → ((x : CapSnap) → Member x ys → Member x xs)
    → is_writing rs ys ≡ true → Each (λ r. is_writer_of f r ≡ true → r.tag ≡ shared_tag rs s ys) rs
shared_open f s n rs ws xs [] i there writing r k w = absurd (both_ways false refl writing)
shared_open f s n rs ws xs (y ∷ ys) i there writing r k w =
    ⊎_elim
    (λ open_now. tag_of_open f s n rs ws xs y i (there y (inl refl)) open_now r k w ∙ sym (cond-true (is_open rs y) y.follows (shared_tag rs s ys) open_now))
    (λ closed. shared_open f s n rs ws xs ys i (λ x m. there x (inr m)) (⊎_elim (λ t. absurd (both_ways (is_open rs y) closed t)) (λ t. t) (or_cases (is_open rs y) (is_writing rs ys) writing)) r k w
    ∙ sym (cond-false (is_open rs y) y.follows (shared_tag rs s ys) closed))
    (cases_Bool (is_open rs y))

shared_none : (rs : List Live) (s : ℕ) (xs : List CapSnap) → is_writing rs xs ≡ false → shared_tag rs s xs ≡ s
shared_none rs s [] none = refl
shared_none rs s (x ∷ xs) none =
    let parts = or_parts (is_open rs x) (is_writing rs xs) none in
    cond-false (is_open rs x) x.follows (shared_tag rs s xs) parts.0 ∙ shared_none rs s xs parts.1

shared : (f s : ℕ) (n : ℕ → ℕ) (rs : List Live) (ws : List Write) (xs : List CapSnap) → InOrder f s n rs ws xs
    → Each (λ r. is_writer_of f r ≡ true → r.tag ≡ shared_tag rs s xs) rs
shared f s n rs ws xs i r m w =
    ⊎_elim
    (λ writing. shared_open f s n rs ws xs xs i (λ x k. k) writing r m w)
    (λ none. at_present f s rs ws xs i.tags (none_open f n rs xs i.opens none) r m w ∙ sym (shared_none rs s xs none))
    (cases_Bool (is_writing rs xs))

pub share_a_tag : (h : List Entry) → Ordered h → WritersShareATag h
share_a_tag h i f = shared f _ _ _ _ _ (i.1 f)

-- Finished cap snaps

pub above_closed : (f : ℕ) (n : ℕ → ℕ) (rs : List Live) (xs : List CapSnap) (x : CapSnap) → Opens f n rs xs → Member x xs → is_open rs x ≡ false
    → Each (λ r. is_writer_of f r ≡ true → x.follows < r.tag) rs
above_closed f n rs xs x i m closed r k w =
    ⊎_elim (λ l. l) (λ low. absurd (both_ways (is_open rs x) closed (older_opens f n rs xs x i m (r, k, w, low)))) (cases_lt x.follows r.tag)

pub not_written : (h : List Entry) → Ordered h → FinishedSnapsAreNotWritten h
not_written h i f x m = above_closed f _ _ _ x (i.1 f).opens m
