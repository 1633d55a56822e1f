-- Tags of writers, writes and cap snaps. What holds of one file at one moment is a record over its values: its context's
-- seq, the live references, its writes, and its cap snaps that aren't sent.
use Rattle.std.proofs.Common.{◌≡◌, refl, sym, ◌∙◌, ℕ, ◌<◌, ◌≤◌, true, List, [], ◌∷◌, ◌++◌, arith, inl, inr, ◌⊎◌, ⊎_elim, subst}
use Rattle.std.proofs.lemmas.Bool.{cases_lt}
use Rattle.cs_parts.specs.declared.references.Live.{Live}
use Rattle.cs_parts.specs.References.{is_writer_of}
use Rattle.cs_laws.specs.CapSnaps.{CapSnap}
use Rattle.cs_laws.specs.Image.{Write}
use Rattle.cs_theorems.specs.Order.{TagsFall, FollowsRise, HasOlder}
use Rattle.cs_theorems.proofs.Listed.{Member, Each, each_nil, each_cons, each_end, each_tail}
use Rattle.cs_theorems.proofs.Tests.{member_end}

-- a cap snap that follows q isn't sent
abbrev pub Waits : ℕ → List CapSnap → Type 0
Waits q xs = (x : CapSnap) × Member x xs × (x.follows ≡ q)

-- no writer has the tag of a cap snap that isn't sent, or an older one
abbrev pub Still : ℕ → List Live → List CapSnap → Type 0
Still f rs xs = Each (λ x. HasOlder f x.follows rs → ⊥) xs

pub record Tags (f s : ℕ) (rs : List Live) (ws : List Write) (xs : List CapSnap) : Type 0 where
  -- of the writers
  pub live_low : Each (λ r. is_writer_of f r ≡ true → r.tag ≤ s) rs
  pub same : Each (λ r. is_writer_of f r ≡ true → Each (λ t. is_writer_of f t ≡ true → r.tag ≡ t.tag) rs) rs
  pub behind : Each (λ r. is_writer_of f r ≡ true → r.tag < s → Waits r.tag xs) rs
  pub above : Each (λ r. is_writer_of f r ≡ true → Each (λ x. x.follows ≤ r.tag) xs) rs
  -- of the writes
  pub written_low : Each (λ w. w.tag ≤ s) ws
  pub written_behind : Each (λ r. is_writer_of f r ≡ true → Each (λ w. w.tag ≤ r.tag) ws) rs
  pub fall : TagsFall ws
  -- of the cap snaps
  pub queued_low : Each (λ x. x.follows < s) xs
  pub rise : FollowsRise xs

pub tags_first : (f s : ℕ) → Tags f s [] [] []
tags_first f s = record {
  live_low = each_nil _;
  same = each_nil _;
  behind = each_nil _;
  above = each_nil _;
  written_low = each_nil _;
  written_behind = each_nil _;
  fall = tt;
  queued_low = each_nil _;
  rise = tt;
}

-- where none is old, each writer has the present tag
pub at_present : (f s : ℕ) (rs : List Live) (ws : List Write) (xs : List CapSnap) → Tags f s rs ws xs → Still f rs xs
    → Each (λ r. is_writer_of f r ≡ true → r.tag ≡ s) rs
at_present f s rs ws xs i still r m w =
    ⊎_elim
    (λ l. let queued : Waits r.tag xs = i.behind r m w l in absurd (still queued.0 queued.1 (r, m, w, omega (arith, queued.2))))
    (λ at. omega (arith, i.live_low r m w))
    (cases_lt r.tag s)

pub tags_begin : (f s : ℕ) (rs : List Live) (ws : List Write) (xs : List CapSnap) (n : Live) → (is_writer_of f n ≡ true → n.tag ≡ s)
    → (is_writer_of f n ≡ true → Still f rs xs) → Tags f s rs ws xs → Tags f s (rs ++ n ∷ []) ws xs
tags_begin f s rs ws xs n new still i = record {
  live_low = each_end (λ r. is_writer_of f r ≡ true → r.tag ≤ s) rs n i.live_low (λ w. omega (arith, new w));
  same = each_end (λ r. is_writer_of f r ≡ true → Each (λ t. is_writer_of f t ≡ true → r.tag ≡ t.tag) (rs ++ n ∷ [])) rs n
      (λ r m w. each_end (λ t. is_writer_of f t ≡ true → r.tag ≡ t.tag) rs n (i.same r m w)
      (λ is. at_present f s rs ws xs i (still is) r m w ∙ sym (new is)))
      (λ is. each_end (λ t. is_writer_of f t ≡ true → n.tag ≡ t.tag) rs n
      (λ t m w. new is ∙ sym (at_present f s rs ws xs i (still is) t m w))
      (λ _. refl));
  behind = each_end (λ r. is_writer_of f r ≡ true → r.tag < s → Waits r.tag xs) rs n i.behind (λ w l. absurd (omega (arith, new w)));
  above = each_end (λ r. is_writer_of f r ≡ true → Each (λ x. x.follows ≤ r.tag) xs) rs n i.above
      (λ w x m. omega (arith, i.queued_low x m, new w));
  written_low = i.written_low;
  written_behind = each_end (λ r. is_writer_of f r ≡ true → Each (λ w. w.tag ≤ r.tag) ws) rs n i.written_behind
      (λ is v m. omega (arith, i.written_low v m, new is));
  fall = i.fall;
  queued_low = i.queued_low;
  rise = i.rise;
}

-- some of the references end
pub tags_fewer : (f s : ℕ) (rs : List Live) (ws : List Write) (xs : List CapSnap) (ts : List Live) → ((r : Live) → Member r ts → Member r rs)
    → Tags f s rs ws xs → Tags f s ts ws xs
tags_fewer f s rs ws xs ts there i = record {
  live_low = λ r m. i.live_low r (there r m);
  same = λ r m w t k. i.same r (there r m) w t (there t k);
  behind = λ r m. i.behind r (there r m);
  above = λ r m. i.above r (there r m);
  written_low = i.written_low;
  written_behind = λ r m. i.written_behind r (there r m);
  fall = i.fall;
  queued_low = i.queued_low;
  rise = i.rise;
}

-- a write on a live reference
pub tags_write : (f s : ℕ) (rs : List Live) (ws : List Write) (xs : List CapSnap) (r : Live) (v : Write) → v.tag ≡ r.tag → Member r rs
    → is_writer_of f r ≡ true → Tags f s rs ws xs → Tags f s rs (v ∷ ws) xs
tags_write f s rs ws xs r v is m w i = record {
  live_low = i.live_low;
  same = i.same;
  behind = i.behind;
  above = i.above;
  written_low = each_cons (λ u. u.tag ≤ s) v ws (omega (arith, is, i.live_low r m w)) i.written_low;
  written_behind = λ t k is_writer. each_cons (λ u. u.tag ≤ t.tag) v ws (omega (arith, is, i.same r m w t k is_writer)) (i.written_behind t k is_writer);
  fall = (λ u k. omega (arith, is, i.written_behind r m w u k), i.fall);
  queued_low = i.queued_low;
  rise = i.rise;
}

follows_end : (xs : List CapSnap) (y : CapSnap) → Each (λ x. x.follows < y.follows) xs → FollowsRise xs → FollowsRise (xs ++ y ∷ [])
follows_end [] y low up = (each_nil (λ z. y.follows < z.follows), tt)
follows_end (x ∷ xs) y low up =
    (each_end (λ z. x.follows < z.follows) xs y up.0 (low x (inl refl)), follows_end xs y (each_tail (λ z. z.follows < y.follows) x xs low) up.1)

-- the context rises, and a cap snap of the old one is queued
pub tags_made : (f s n : ℕ) (rs : List Live) (ws : List Write) (xs : List CapSnap) (y : CapSnap) → s < n → y.follows ≡ s → Still f rs xs
    → Tags f s rs ws xs → Tags f n rs ws (xs ++ y ∷ [])
tags_made f s n rs ws xs y up is still i = record {
  live_low = λ r m w. omega (arith, i.live_low r m w);
  same = i.same;
  behind = λ r m w _. (y, member_end y xs, is ∙ sym (at_present f s rs ws xs i still r m w));
  above = λ r m w. each_end (λ x. x.follows ≤ r.tag) xs y (i.above r m w) (omega (arith, is, at_present f s rs ws xs i still r m w));
  written_low = λ v m. omega (arith, i.written_low v m);
  written_behind = i.written_behind;
  fall = i.fall;
  queued_low = each_end (λ x. x.follows < n) xs y (λ x m. omega (arith, i.queued_low x m)) (omega (arith, is));
  rise = follows_end xs y (λ x m. omega (arith, is, i.queued_low x m)) i.rise;
}

-- why none is made: a writer is older than some cap snap already, or there is no writer
abbrev pub Unmade : ℕ → List Live → List CapSnap → Type 0
Unmade f rs xs = ((x : CapSnap) × Member x xs × HasOlder f x.follows rs) ⊎ Each (λ r. is_writer_of f r ≡ true → ⊥) rs

-- then each writer's tag is one of a cap snap
all_wait : (f s : ℕ) (rs : List Live) (ws : List Write) (xs : List CapSnap) → Tags f s rs ws xs → Unmade f rs xs
    → Each (λ r. is_writer_of f r ≡ true → Waits r.tag xs) rs
all_wait f s rs ws xs i (inl (x, there, (t, k, is, old))) r m w =
    i.behind r m w (omega (arith, i.same r m w t k is, old, i.queued_low x there))
all_wait f s rs ws xs i (inr none) r m w = absurd (none r m w)

pub tags_unmade : (f s n : ℕ) (rs : List Live) (ws : List Write) (xs : List CapSnap) → s < n → Unmade f rs xs
    → Tags f s rs ws xs → Tags f n rs ws xs
tags_unmade f s n rs ws xs up unmade i = record {
  live_low = λ r m w. omega (arith, i.live_low r m w);
  same = i.same;
  behind = λ r m w _. all_wait f s rs ws xs i unmade r m w;
  above = i.above;
  written_low = λ v m. omega (arith, i.written_low v m);
  written_behind = i.written_behind;
  fall = i.fall;
  queued_low = λ x m. omega (arith, i.queued_low x m);
  rise = i.rise;
}

-- the first cap snap is sent
still_waits : (f q : ℕ) (rs : List Live) (r : Live) (x : CapSnap) (xs : List CapSnap) → Member r rs → is_writer_of f r ≡ true → r.tag ≡ q
    → (HasOlder f x.follows rs → ⊥) → Waits q (x ∷ xs) → Waits q xs
still_waits f q rs r x xs m w is done (y, inl same, follows) =
    absurd (done (r, m, w, subst (λ z. r.tag ≤ z.follows) (sym same) (omega (arith, is, follows))))
still_waits f q rs r x xs m w is done (y, inr there, follows) = (y, there, follows)

pub tags_sent : (f s : ℕ) (rs : List Live) (ws : List Write) (x : CapSnap) (xs : List CapSnap) → (HasOlder f x.follows rs → ⊥)
    → Tags f s rs ws (x ∷ xs) → Tags f s rs ws xs
tags_sent f s rs ws x xs done i = record {
  live_low = i.live_low;
  same = i.same;
  behind = λ r m w l. still_waits f r.tag rs r x xs m w refl done (i.behind r m w l);
  above = λ r m w. each_tail (λ y. y.follows ≤ r.tag) x xs (i.above r m w);
  written_low = i.written_low;
  written_behind = i.written_behind;
  fall = i.fall;
  queued_low = each_tail (λ y. y.follows < s) x xs i.queued_low;
  rise = i.rise.1;
}
