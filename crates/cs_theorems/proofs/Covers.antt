-- Cap snaps and flushes of one file cover its writes and the changes of its mode: between the tag of one and any later number
-- of a snapshot that the client knows, one was made, and of those that follow one number the last has the metadata up to it.
use Rattle.std.proofs.Common.{◌≡◌, refl, sym, ap, ◌∙◌, ℕ, ◌+◌, ◌<◌, ◌≤◌, true, false, nat_le, List, [], ◌∷◌, ◌++◌, arith, inl, inr, ◌⊎◌, ⊎_elim}
use Rattle.std.proofs.lemmas.Bool.{cases_lt, cond-false, lt-leb}
use Rattle.cs_bits.specs.declared.Caps.{Caps}
use Rattle.cs_bits.specs.Bits.{is_empty, no_caps}
use Rattle.cs_ids.specs.declared.objects.FileMeta.{FileMeta}
use Rattle.cs_parts.specs.declared.references.Live.{Live}
use Rattle.cs_parts.specs.References.{is_writer_of}
use Rattle.cs_laws.specs.CapSnaps.{CapSnap}
use Rattle.cs_laws.specs.Flushes.{Flush, meta_upto, written_meta}
use Rattle.cs_laws.specs.Image.{Write, upto}
use Rattle.cs_theorems.proofs.Listed.{Member, Each, each_nil, each_cons, each_end, each_tail, member_left}
use Rattle.cs_theorems.proofs.Modes.{Change, changes_upto, last_mode}
use Rattle.cs_theorems.proofs.Modes as modes
use Rattle.cs_theorems.proofs.Queues.{upto_all}
use Rattle.cs_theorems.proofs.Tags.{Tags, Waits}
use Rattle.cs_theorems.proofs.Tests.{member_end}

-- a flush of the file that follows q was sent
abbrev pub SentWith : ℕ → ℕ → List Flush → Type 0
SentWith f q fs = (x : Flush) × Member x fs × (x.file ≡ f) × (x.follows ≡ q)

-- a cap snap of the file that follows q is queued, or a flush that does was sent
abbrev pub Made : ℕ → ℕ → List CapSnap → List Flush → Type 0
Made f q xs fs = Waits q xs ⊎ SentWith f q fs

-- one that follows a number from a on, and below t
abbrev pub Between : ℕ → ℕ → ℕ → List CapSnap → List Flush → Type 0
Between f a t xs fs = (q : ℕ) × Made f q xs fs × (a ≤ q) × (q < t)

-- one that follows a number from a on
abbrev pub From : ℕ → ℕ → List CapSnap → List Flush → Type 0
From f a xs fs = (q : ℕ) × Made f q xs fs × (a ≤ q)

-- What was done under the tag a is covered at each snapshot up to s, and else dirty.
pub record IsCovered (f s a : ℕ) (d : Caps) (xs : List CapSnap) (fs : List Flush) : Type 0 where
  pub before : (t : ℕ) → a < t → t ≤ s → Between f a t xs fs
  pub made : (is_empty d ≡ false) ⊎ From f a xs fs

-- the metadata up to a number
abbrev pub measure : ℕ → List Write → List Change → FileMeta
measure q ws cs = meta_upto q (last_mode (changes_upto q cs)) ws

-- of the flushes that follow one number none has a greater tid
abbrev pub IsLatest : ℕ → Flush → List Flush → Type 0
IsLatest f x fs = Each (λ y. y.file ≡ f → y.follows ≡ x.follows → y.tid ≤ x.tid) fs

-- the flush has the metadata up to its number, unless more is to come under that number
abbrev pub IsRight : ℕ → List Write → List Change → Caps → List CapSnap → Flush → Type 0
IsRight s ws cs d xs x = Waits x.follows xs ⊎ (((x.follows ≡ s) × (is_empty d ≡ false)) ⊎ (x.meta ≡ measure x.follows ws cs))

-- s: the context's seq; rs, ws, cs, d: the live references, the file's writes, the changes of its mode and its dirty metadata;
-- xs, fs: its cap snaps that aren't sent, and the flushes that were
pub record Covers (f s : ℕ) (rs : List Live) (ws : List Write) (cs : List Change) (d : Caps) (xs : List CapSnap) (fs : List Flush) : Type 0 where
  pub written : Each (λ w. IsCovered f s w.tag d xs fs) ws
  pub changed : Each (λ c. IsCovered f s c.tag d xs fs) cs
  pub metas : Each (λ x. x.file ≡ f → IsLatest f x fs → IsRight s ws cs d xs x) fs
  pub above : Each (λ r. is_writer_of f r ≡ true → r.tag < s → Each (λ x. x.file ≡ f → x.follows ≤ r.tag) fs) rs
  pub low : Each (λ x. x.file ≡ f → x.follows ≤ s) fs
  pub changes_low : Each (λ c. c.tag ≤ s) cs
  pub changes_behind : Each (λ r. is_writer_of f r ≡ true → Each (λ c. c.tag ≤ r.tag) cs) rs
  pub modes : Each (λ x. x.mode ≡ last_mode (changes_upto x.follows cs)) xs

-- of a file to which nothing was done
pub covers_blank : (f s : ℕ) (rs : List Live) (fs : List Flush) → Each (λ x. x.file ≡ f → ⊥) fs → Covers f s rs [] [] no_caps [] fs
covers_blank f s rs fs none = record {
  written = each_nil _;
  changed = each_nil _;
  metas = λ x there of_f. absurd (none x there of_f);
  above = λ r live writer old x there of_f. absurd (none x there of_f);
  low = λ x there of_f. absurd (none x there of_f);
  changes_low = each_nil _;
  changes_behind = λ r live writer. each_nil _;
  modes = each_nil _;
}

-- References

pub covers_begin : (f s : ℕ) (rs : List Live) (ws : List Write) (cs : List Change) (d : Caps) (xs : List CapSnap) (fs : List Flush) (n : Live)
    → (is_writer_of f n ≡ true → n.tag ≡ s) → Covers f s rs ws cs d xs fs → Covers f s (rs ++ n ∷ []) ws cs d xs fs
covers_begin f s rs ws cs d xs fs n new i = record {
  written = i.written;
  changed = i.changed;
  metas = i.metas;
  above = each_end (λ r. is_writer_of f r ≡ true → r.tag < s → Each (λ x. x.file ≡ f → x.follows ≤ r.tag) fs) rs n i.above
      (λ w old. absurd (omega (arith, new w)));
  low = i.low;
  changes_low = i.changes_low;
  changes_behind = each_end (λ r. is_writer_of f r ≡ true → Each (λ c. c.tag ≤ r.tag) cs) rs n i.changes_behind
      (λ w c there. omega (arith, new w, i.changes_low c there));
  modes = i.modes;
}

-- some of the references end
pub covers_fewer : (f s : ℕ) (rs : List Live) (ws : List Write) (cs : List Change) (d : Caps) (xs : List CapSnap) (fs : List Flush) (ts : List Live)
    → ((r : Live) → Member r ts → Member r rs) → Covers f s rs ws cs d xs fs → Covers f s ts ws cs d xs fs
covers_fewer f s rs ws cs d xs fs ts there i = record {
  written = i.written;
  changed = i.changed;
  metas = i.metas;
  above = λ r k. i.above r (there r k);
  low = i.low;
  changes_low = i.changes_low;
  changes_behind = λ r k. i.changes_behind r (there r k);
  modes = i.modes;
}

-- What is done makes metadata dirty

still_covered : (f s a : ℕ) (d e : Caps) (xs : List CapSnap) (fs : List Flush) → is_empty e ≡ false → IsCovered f s a d xs fs → IsCovered f s a e xs fs
still_covered f s a d e xs fs some i = record { before = i.before; made = inl some }

-- a later write isn't among those up to q
upto_later : (q : ℕ) (v : Write) (ws : List Write) → q < v.tag → upto q (v ∷ ws) ≡ upto q ws
upto_later q v ws later = cond-false (nat_le v.tag q) (v ∷ upto q ws) (upto q ws) (lt-leb v.tag q later)

-- the metadata up to the flush's number is as before
right_same : (s : ℕ) (ws vs : List Write) (cs ds : List Change) (d e : Caps) (xs : List CapSnap) (x : Flush) → is_empty e ≡ false
    → measure x.follows ws cs ≡ measure x.follows vs ds → IsRight s ws cs d xs x → IsRight s vs ds e xs x
right_same s ws vs cs ds d e xs x some same i =
    ⊎_elim (λ waits. inl waits) (λ more. ⊎_elim (λ now. inr (inl (now.0, some))) (λ is. inr (inr (is ∙ same))) more) i

-- a write on a live reference; e: what is dirty then
pub covers_write : (f s : ℕ) (rs : List Live) (ws : List Write) (cs : List Change) (d e : Caps) (xs : List CapSnap) (fs : List Flush) (r : Live) (v : Write)
    → v.tag ≡ r.tag → Member r rs → is_writer_of f r ≡ true → is_empty e ≡ false → Tags f s rs ws xs → Covers f s rs ws cs d xs fs
    → Covers f s rs (v ∷ ws) cs e xs fs
covers_write f s rs ws cs d e xs fs r v is there writer some tags i = record {
  written = each_cons (λ w. IsCovered f s w.tag e xs fs) v ws
      (record {
        before = λ t up known. (r.tag, inl (tags.behind r there writer (omega (arith, is))), omega (arith, is), omega (arith, is));
        made = inl some;
      })
      (λ w k. still_covered f s w.tag d e xs fs some (i.written w k));
  changed = λ c k. still_covered f s c.tag d e xs fs some (i.changed c k);
  metas = λ x k of_f last. ⊎_elim
      (λ later. right_same s ws (v ∷ ws) cs cs d e xs x some
      (ap (λ us. written_meta (last_mode (changes_upto x.follows cs)) us) (sym (upto_later x.follows v ws later))) (i.metas x k of_f last))
      (λ upto. ⊎_elim
      (λ old. let most : x.follows ≤ r.tag = i.above r there writer old x k of_f in
      let same : x.follows ≡ r.tag = omega (arith, is, most, upto) in inl (waits_same xs x.follows r.tag same (tags.behind r there writer old)))
      (λ now. inr (inl (omega (arith, is, upto, now, i.low x k of_f), some)))
      (cases_lt r.tag s))
      (cases_lt x.follows v.tag);
  above = i.above;
  low = i.low;
  changes_low = i.changes_low;
  changes_behind = i.changes_behind;
  modes = i.modes;
}
  where
    waits_same : (ys : List CapSnap) (p q : ℕ) → p ≡ q → Waits q ys → Waits p ys
    waits_same ys p q same (y, waits, follows) = (y, waits, follows ∙ sym same)

-- a change of the mode, where no writer is older than the context; e: what is dirty then
pub covers_change : (f s : ℕ) (rs : List Live) (ws : List Write) (cs : List Change) (d e : Caps) (xs : List CapSnap) (fs : List Flush) (n : Change)
    → n.tag ≡ s → is_empty e ≡ false → Each (λ r. is_writer_of f r ≡ true → r.tag ≡ s) rs → Tags f s rs ws xs → Covers f s rs ws cs d xs fs
    → Covers f s rs ws (n ∷ cs) e xs fs
covers_change f s rs ws cs d e xs fs n is some young tags i = record {
  written = λ w k. still_covered f s w.tag d e xs fs some (i.written w k);
  changed = each_cons (λ c. IsCovered f s c.tag e xs fs) n cs
      (record { before = λ t up known. absurd (omega (arith, is)); made = inl some })
      (λ c k. still_covered f s c.tag d e xs fs some (i.changed c k));
  metas = λ x k of_f last. ⊎_elim
      (λ later. right_same s ws ws cs (n ∷ cs) d e xs x some
      (ap (λ ds. meta_upto x.follows (last_mode ds) ws) (sym (modes.upto_later x.follows n cs (omega (arith, is, later))))) (i.metas x k of_f last))
      (λ upto. inr (inl (omega (arith, upto, i.low x k of_f), some)))
      (cases_lt x.follows s);
  above = i.above;
  low = i.low;
  changes_low = each_cons (λ c. c.tag ≤ s) n cs (omega (arith, is)) i.changes_low;
  changes_behind = λ r k w. each_cons (λ c. c.tag ≤ r.tag) n cs (omega (arith, is, young r k w)) (i.changes_behind r k w);
  modes = λ x k. i.modes x k ∙ ap last_mode (sym (modes.upto_later x.follows n cs (omega (arith, is, tags.queued_low x k))));
}

-- Snapshots

made_more : (f q : ℕ) (xs : List CapSnap) (fs : List Flush) (y : CapSnap) → Made f q xs fs → Made f q (xs ++ y ∷ []) fs
made_more f q xs fs y (inl (x, there, is)) = inl (x, member_left x xs (y ∷ []) there, is)
made_more f q xs fs y (inr sent) = inr sent

between_more : (f a t : ℕ) (xs : List CapSnap) (fs : List Flush) (y : CapSnap) → Between f a t xs fs → Between f a t (xs ++ y ∷ []) fs
between_more f a t xs fs y (q, made, from, to) = (q, made_more f q xs fs y made, from, to)

from_more : (f a : ℕ) (xs : List CapSnap) (fs : List Flush) (y : CapSnap) → From f a xs fs → From f a (xs ++ y ∷ []) fs
from_more f a xs fs y (q, made, from) = (q, made_more f q xs fs y made, from)

covered_made : (f s n a : ℕ) (d : Caps) (xs : List CapSnap) (fs : List Flush) (y : CapSnap) → y.follows ≡ s → a ≤ s → IsCovered f s a d xs fs
    → IsCovered f n a d (xs ++ y ∷ []) fs
covered_made f s n a d xs fs y is low i = record {
  before = λ t later known. ⊎_elim
      (λ above. (s, inl (y, member_end y xs, is), low, above))
      (λ upto. between_more f a t xs fs y (i.before t later upto))
      (cases_lt s t);
  made = ⊎_elim (λ dirty. inl dirty) (λ from. inr (from_more f a xs fs y from)) i.made;
}

-- the context rises, and a cap snap of the old one is queued
pub covers_made : (f s n : ℕ) (rs : List Live) (ws : List Write) (cs : List Change) (d : Caps) (xs : List CapSnap) (fs : List Flush) (y : CapSnap) → s < n
    → y.follows ≡ s → y.mode ≡ last_mode cs → Tags f s rs ws xs → Covers f s rs ws cs d xs fs → Covers f n rs ws cs d (xs ++ y ∷ []) fs
covers_made f s n rs ws cs d xs fs y up is mode tags i = record {
  written = λ w k. covered_made f s n w.tag d xs fs y is (tags.written_low w k) (i.written w k);
  changed = λ c k. covered_made f s n c.tag d xs fs y is (i.changes_low c k) (i.changed c k);
  metas = λ x k of_f last. ⊎_elim
      (λ (z, waits, follows). inl (z, member_left z xs (y ∷ []) waits, follows))
      (λ more. ⊎_elim (λ now. inl (y, member_end y xs, is ∙ sym now.0)) (λ right. inr (inr right)) more)
      (i.metas x k of_f last);
  above = λ r k w old x there of_f. ⊎_elim
      (λ older. i.above r k w older x there of_f)
      (λ young. omega (arith, young, i.low x there of_f))
      (cases_lt r.tag s);
  low = λ x there of_f. omega (arith, i.low x there of_f);
  changes_low = λ c k. omega (arith, i.changes_low c k);
  changes_behind = i.changes_behind;
  modes = each_end (λ x. x.mode ≡ last_mode (changes_upto x.follows cs)) xs y i.modes
      (mode ∙ ap last_mode (sym (modes.upto_all y.follows cs (λ c k. omega (arith, is, i.changes_low c k)))));
}

covered_unmade : (f s n a : ℕ) (d : Caps) (xs : List CapSnap) (fs : List Flush) → Between f a (s + 1) xs fs → IsCovered f s a d xs fs → IsCovered f n a d xs fs
covered_unmade f s n a d xs fs between i = record {
  before = λ t later known. ⊎_elim
      (λ above. (between.0, between.1, between.2, omega (arith, between.3)))
      (λ upto. i.before t later upto)
      (cases_lt s t);
  made = i.made;
}

-- it rises and none is queued: one is written on still, or nothing is dirty
pub covers_unmade : (f s n : ℕ) (rs : List Live) (ws : List Write) (cs : List Change) (d : Caps) (xs : List CapSnap) (fs : List Flush) → s < n
    → Each (λ w. Between f w.tag (s + 1) xs fs) ws → Each (λ c. Between f c.tag (s + 1) xs fs) cs
    → Each (λ x. x.file ≡ f → x.follows ≡ s → is_empty d ≡ false → ⊥) fs → Covers f s rs ws cs d xs fs → Covers f n rs ws cs d xs fs
covers_unmade f s n rs ws cs d xs fs up written changed settled i = record {
  written = λ w k. covered_unmade f s n w.tag d xs fs (written w k) (i.written w k);
  changed = λ c k. covered_unmade f s n c.tag d xs fs (changed c k) (i.changed c k);
  metas = λ x k of_f last. ⊎_elim
      (λ waits. inl waits)
      (λ more. ⊎_elim (λ now. absurd (settled x k of_f now.0 now.1)) (λ right. inr (inr right)) more)
      (i.metas x k of_f last);
  above = λ r k w old x there of_f. ⊎_elim
      (λ older. i.above r k w older x there of_f)
      (λ young. omega (arith, young, i.low x there of_f))
      (cases_lt r.tag s);
  low = λ x there of_f. omega (arith, i.low x there of_f);
  changes_low = λ c k. omega (arith, i.changes_low c k);
  changes_behind = i.changes_behind;
  modes = i.modes;
}

-- Flushes

made_beside : (f q : ℕ) (xs : List CapSnap) (fs : List Flush) (y : Flush) → Made f q xs fs → Made f q xs (fs ++ y ∷ [])
made_beside f q xs fs y (inl waits) = inl waits
made_beside f q xs fs y (inr (x, there, of_f, is)) = inr (x, member_left x fs (y ∷ []) there, of_f, is)

covered_beside : (f s a : ℕ) (d : Caps) (xs : List CapSnap) (fs : List Flush) (y : Flush) → IsCovered f s a d xs fs → IsCovered f s a d xs (fs ++ y ∷ [])
covered_beside f s a d xs fs y i = record {
  before = λ t later known. let b : Between f a t xs fs = i.before t later known in (b.0, made_beside f b.0 xs fs y b.1, b.2, b.3);
  made = ⊎_elim (λ dirty. inl dirty) (λ from. inr (from.0, made_beside f from.0 xs fs y from.1, from.2)) i.made;
}

-- the latest among more is so among fewer
latest_before : (f : ℕ) (x : Flush) (fs : List Flush) (y : Flush) → IsLatest f x (fs ++ y ∷ []) → IsLatest f x fs
latest_before f x fs y last z there = last z (member_left z fs (y ∷ []) there)

-- a flush of another file is sent
pub covers_other : (f s : ℕ) (rs : List Live) (ws : List Write) (cs : List Change) (d : Caps) (xs : List CapSnap) (fs : List Flush) (y : Flush) → (y.file ≡ f → ⊥)
    → Covers f s rs ws cs d xs fs → Covers f s rs ws cs d xs (fs ++ y ∷ [])
covers_other f s rs ws cs d xs fs y other i = record {
  written = λ w k. covered_beside f s w.tag d xs fs y (i.written w k);
  changed = λ c k. covered_beside f s c.tag d xs fs y (i.changed c k);
  metas = each_end (λ x. x.file ≡ f → IsLatest f x (fs ++ y ∷ []) → IsRight s ws cs d xs x) fs y
      (λ x k of_f last. i.metas x k of_f (latest_before f x fs y last)) (λ of_f. absurd (other of_f));
  above = λ r k w old. each_end (λ x. x.file ≡ f → x.follows ≤ r.tag) fs y (i.above r k w old) (λ of_f. absurd (other of_f));
  low = each_end (λ x. x.file ≡ f → x.follows ≤ s) fs y i.low (λ of_f. absurd (other of_f));
  changes_low = i.changes_low;
  changes_behind = i.changes_behind;
  modes = i.modes;
}

-- an earlier flush isn't the latest that follows a number under which a later one is sent
not_latest : (f : ℕ) (x : Flush) (fs : List Flush) (y : Flush) → y.file ≡ f → x.tid < y.tid → IsLatest f x (fs ++ y ∷ []) → x.follows ≡ y.follows → ⊥
not_latest f x fs y of_f less last same = omega (arith, less, last y (member_end y fs) of_f (sym same))

made_sent : (f q : ℕ) (x : CapSnap) (xs : List CapSnap) (fs : List Flush) (y : Flush) → y.file ≡ f → y.follows ≡ x.follows → Made f q (x ∷ xs) fs
    → Made f q xs (fs ++ y ∷ [])
made_sent f q x xs fs y of_f is (inl (z, inl first, follows)) = inr (y, member_end y fs, of_f, is ∙ (ap (λ k. k.follows) first ∙ follows))
made_sent f q x xs fs y of_f is (inl (z, inr there, follows)) = inl (z, there, follows)
made_sent f q x xs fs y of_f is (inr sent) = made_beside f q xs fs y (inr sent)

covered_sent : (f s a : ℕ) (d : Caps) (x : CapSnap) (xs : List CapSnap) (fs : List Flush) (y : Flush) → y.file ≡ f → y.follows ≡ x.follows
    → IsCovered f s a d (x ∷ xs) fs → IsCovered f s a d xs (fs ++ y ∷ [])
covered_sent f s a d x xs fs y of_f is i = record {
  before = λ t later known. let b : Between f a t (x ∷ xs) fs = i.before t later known in (b.0, made_sent f b.0 x xs fs y of_f is b.1, b.2, b.3);
  made = ⊎_elim (λ dirty. inl dirty) (λ from. inr (from.0, made_sent f from.0 x xs fs y of_f is from.1, from.2)) i.made;
}

waits_else : (q : ℕ) (x : CapSnap) (xs : List CapSnap) → (q ≡ x.follows → ⊥) → Waits q (x ∷ xs) → Waits q xs
waits_else q x xs other (z, inl first, follows) = absurd (other (sym follows ∙ ap (λ k. k.follows) (sym first)))
waits_else q x xs other (z, inr there, follows) = (z, there, follows)

-- the file's first cap snap is sent, under a number greater than all before
pub covers_sent : (f s : ℕ) (rs : List Live) (ws : List Write) (cs : List Change) (d : Caps) (x : CapSnap) (xs : List CapSnap) (fs : List Flush) (y : Flush) → y.file ≡ f
    → y.follows ≡ x.follows → y.meta ≡ meta_upto y.follows x.mode ws → Each (λ z. z.tid < y.tid) fs → Tags f s rs ws (x ∷ xs)
    → Covers f s rs ws cs d (x ∷ xs) fs → Covers f s rs ws cs d xs (fs ++ y ∷ [])
covers_sent f s rs ws cs d x xs fs y of_f is meta drawn tags i = record {
  written = λ w k. covered_sent f s w.tag d x xs fs y of_f is (i.written w k);
  changed = λ c k. covered_sent f s c.tag d x xs fs y of_f is (i.changed c k);
  metas = each_end (λ z. z.file ≡ f → IsLatest f z (fs ++ y ∷ []) → IsRight s ws cs d xs z) fs y
      (λ z k own last.
      let other : z.follows ≡ x.follows → ⊥ = λ same. not_latest f z fs y of_f (drawn z k) last (same ∙ sym is) in
      ⊎_elim (λ waits. inl (waits_else z.follows x xs other waits)) (λ more. inr more) (i.metas z k own (latest_before f z fs y last)))
      (λ _ _. inr (inr (meta ∙ ap (λ m. meta_upto y.follows m ws) (i.modes x (inl refl) ∙ ap (λ q. last_mode (changes_upto q cs)) (sym is)))));
  above = λ r k w old. each_end (λ z. z.file ≡ f → z.follows ≤ r.tag) fs y (i.above r k w old)
      (λ _. omega (arith, is, tags.above r k w x (inl refl)));
  low = each_end (λ z. z.file ≡ f → z.follows ≤ s) fs y i.low (λ _. omega (arith, is, tags.queued_low x (inl refl)));
  changes_low = i.changes_low;
  changes_behind = i.changes_behind;
  modes = each_tail (λ z. z.mode ≡ last_mode (changes_upto z.follows cs)) x xs i.modes;
}

-- all that was done up to s is in a flush that follows it
covered_head : (f s a : ℕ) (d : Caps) (xs : List CapSnap) (fs : List Flush) (y : Flush) → y.file ≡ f → y.follows ≡ s → a ≤ s → IsCovered f s a d xs fs
    → IsCovered f s a no_caps xs (fs ++ y ∷ [])
covered_head f s a d xs fs y of_f is low i = record {
  before = λ t later known. let b : Between f a t xs fs = i.before t later known in (b.0, made_beside f b.0 xs fs y b.1, b.2, b.3);
  made = inr (s, inr (y, member_end y fs, of_f, is), low);
}

-- the file's present metadata is sent, under a number greater than all before, where no writer is older than the context
pub covers_head : (f s : ℕ) (rs : List Live) (ws : List Write) (cs : List Change) (d : Caps) (xs : List CapSnap) (fs : List Flush) (y : Flush) → y.file ≡ f
    → y.follows ≡ s → y.meta ≡ written_meta (last_mode cs) ws → Each (λ z. z.tid < y.tid) fs → Each (λ r. is_writer_of f r ≡ true → r.tag ≡ s) rs
    → Tags f s rs ws xs → Covers f s rs ws cs d xs fs → Covers f s rs ws cs no_caps xs (fs ++ y ∷ [])
covers_head f s rs ws cs d xs fs y of_f is meta drawn young tags i = record {
  written = λ w k. covered_head f s w.tag d xs fs y of_f is (tags.written_low w k) (i.written w k);
  changed = λ c k. covered_head f s c.tag d xs fs y of_f is (i.changes_low c k) (i.changed c k);
  metas = each_end (λ z. z.file ≡ f → IsLatest f z (fs ++ y ∷ []) → IsRight s ws cs no_caps xs z) fs y
      (λ z k own last. ⊎_elim
      (λ waits. inl waits)
      (λ more. ⊎_elim
      (λ now. absurd (not_latest f z fs y of_f (drawn z k) last (now.0 ∙ sym is)))
      (λ right. inr (inr right))
      more)
      (i.metas z k own (latest_before f z fs y last)))
      (λ _ _. inr (inr (meta
      ∙ (ap (λ vs. written_meta (last_mode cs) vs) (sym (upto_all y.follows ws (λ w k. omega (arith, is, tags.written_low w k))))
      ∙ ap (λ ds. meta_upto y.follows (last_mode ds) ws) (sym (modes.upto_all y.follows cs (λ c k. omega (arith, is, i.changes_low c k))))))));
  above = λ r k w old. absurd (omega (arith, young r k w));
  low = each_end (λ z. z.file ≡ f → z.follows ≤ s) fs y i.low (λ _. omega (arith, is));
  changes_low = i.changes_low;
  changes_behind = i.changes_behind;
  modes = i.modes;
}
