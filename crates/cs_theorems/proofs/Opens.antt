-- A cap snap is writing exactly while a writer lives whose tag is at most the number that it follows.
use Rattle.std.proofs.Common.{◌≡◌, refl, sym, ℕ, ◌<◌, ◌≤◌, true, List, [], ◌∷◌, ◌++◌, ◌==◌, arith, inl, inr, subst}
use Rattle.std.proofs.lemmas.Bool.{cond_both, cond-true, and_from, and_parts, eqb-true, eq-eqb, true≢false}
use Rattle.cs_parts.specs.declared.references.Live.{Live}
use Rattle.cs_parts.specs.References.{has_ref, is_ref, is_writer_of}
use Rattle.cs_laws.specs.CapSnaps.{CapSnap, is_open, writers}
use Rattle.cs_theorems.specs.Order.{HasOlder}
use Rattle.cs_theorems.proofs.Listed.{Member, Each, each_end, each_tail}
use Rattle.cs_theorems.proofs.Tests.{any_true, any_some, filter_has, filter_each}

-- References by name

-- the reference has this name
abbrev pub IsCalled : ℕ → ℕ → Live → Type 0
IsCalled c n r = (r.caller ≡ c) × (r.number ≡ n)

ref_true : (rs : List Live) (r : Live) → Member r rs → has_ref r.caller r.number rs ≡ true
ref_true [] r m = absurd m
ref_true (y ∷ ys) r (inl same) =
    subst (λ z. has_ref z.caller z.number (y ∷ ys) ≡ true) same
    (cond-true (is_ref y.caller y.number y) true (has_ref y.caller y.number ys)
    (and_from (y.caller == y.caller) (y.number == y.number) (eq-eqb y.caller y.caller refl) (eq-eqb y.number y.number refl)))
ref_true (y ∷ ys) r (inr m) =
    cond_both (is_ref r.caller r.number y) true (has_ref r.caller r.number ys) (λ b. b ≡ true) (λ _. refl) (λ _. ref_true ys r m)

abbrev Found : ℕ → ℕ → List Live → Type 0
Found c n rs = (r : Live) × Member r rs × IsCalled c n r

found_more : (c n : ℕ) (y : Live) (ys : List Live) → Found c n ys → Found c n (y ∷ ys)
found_more c n y ys (r, m, called) = (r, inr m, called)

ref_some : (c n : ℕ) (rs : List Live) → has_ref c n rs ≡ true → Found c n rs
ref_some c n [] t = absurd (true≢false (sym t))
ref_some c n (y ∷ ys) t =
    cond_both (is_ref c n y) true (has_ref c n ys) (λ b. b ≡ true → Found c n (y ∷ ys))
    (λ is _. let parts = and_parts (y.caller == c) (y.number == n) is in (y, inl refl, (eqb-true y.caller c parts.0, eqb-true y.number n parts.1)))
    (λ _ there. found_more c n y ys (ref_some c n ys there))
    t

-- each live reference that has w's name is w
abbrev pub IsAlone : List Live → Live → Type 0
IsAlone rs w = Each (λ r. IsCalled w.caller w.number r → r ≡ w) rs

-- n c: how many references the caller c began
pub record Names (n : ℕ → ℕ) (rs : List Live) : Type 0 where
  pub drawn : Each (λ r. r.number ≤ n r.caller) rs
  pub alone : Each (IsAlone rs) rs

-- The cap snaps of a file

-- a writer that a cap snap keeps
pub record IsKept (f : ℕ) (n : ℕ → ℕ) (rs : List Live) (q : ℕ) (w : Live) : Type 0 where
  pub writer : is_writer_of f w ≡ true
  pub old : w.tag ≤ q
  pub drawn : w.number ≤ n w.caller
  pub alone : IsAlone rs w

pub record Opens (f : ℕ) (n : ℕ → ℕ) (rs : List Live) (xs : List CapSnap) : Type 0 where
  pub kept : Each (λ x. Each (IsKept f n rs x.follows) x.writers) xs
  pub has : Each (λ x. Each (λ r. is_writer_of f r ≡ true → r.tag ≤ x.follows → Member r x.writers) rs) xs

pub open_has : (f : ℕ) (n : ℕ → ℕ) (rs : List Live) (xs : List CapSnap) (x : CapSnap) → Opens f n rs xs → Member x xs → is_open rs x ≡ true
    → HasOlder f x.follows rs
open_has f n rs xs x i m t =
    let some = any_some (λ w. has_ref w.caller w.number rs) x.writers t in
    let found : Found some.0.caller some.0.number rs = ref_some some.0.caller some.0.number rs some.2 in
    let kept : IsKept f n rs x.follows some.0 = i.kept x m some.0 some.1 in
    let same : found.0 ≡ some.0 = kept.alone found.0 found.1 found.2 in
    (some.0, subst (λ r. Member r rs) same found.1, kept.writer, kept.old)

pub older_opens : (f : ℕ) (n : ℕ → ℕ) (rs : List Live) (xs : List CapSnap) (x : CapSnap) → Opens f n rs xs → Member x xs
    → HasOlder f x.follows rs → is_open rs x ≡ true
older_opens f n rs xs x i m (r, there, writer, old) =
    any_true (λ w. has_ref w.caller w.number rs) x.writers r (i.has x m r there writer old) (ref_true rs r there)

-- A reference begins

-- its number is above those that its caller drew before
pub record IsNew (n after : ℕ → ℕ) (y : Live) : Type 0 where
  pub above : n y.caller < y.number
  pub drawn : y.number ≤ after y.caller
  pub grows : (c : ℕ) → n c ≤ after c

new_alone : (n after : ℕ → ℕ) (rs : List Live) (y w : Live) → IsNew n after y → w.number ≤ n w.caller → IsAlone rs w → IsAlone (rs ++ y ∷ []) w
new_alone n after rs y w new drawn alone =
    each_end (λ r. IsCalled w.caller w.number r → r ≡ w) rs y alone
    (λ called. let above : n w.caller < y.number = subst (λ c. n c < y.number) called.0 new.above in absurd (omega (arith, above, called.1, drawn)))

pub names_begin : (n after : ℕ → ℕ) (rs : List Live) (y : Live) → IsNew n after y → Names n rs → Names after (rs ++ y ∷ [])
names_begin n after rs y new i = record {
  drawn = each_end (λ r. r.number ≤ after r.caller) rs y (λ r m. omega (arith, i.drawn r m, new.grows r.caller)) new.drawn;
  alone = each_end (IsAlone (rs ++ y ∷ [])) rs y (λ w m. new_alone n after rs y w new (i.drawn w m) (i.alone w m))
      (each_end (λ r. IsCalled y.caller y.number r → r ≡ y) rs y
      (λ r m called. let low : r.number ≤ n y.caller = subst (λ c. r.number ≤ n c) called.0 (i.drawn r m) in absurd (omega (arith, low, called.1, new.above)))
      (λ _. refl));
}

pub opens_begin : (f s : ℕ) (n after : ℕ → ℕ) (rs : List Live) (xs : List CapSnap) (y : Live) → IsNew n after y → (is_writer_of f y ≡ true → y.tag ≡ s)
    → Each (λ x. x.follows < s) xs → Opens f n rs xs → Opens f after (rs ++ y ∷ []) xs
opens_begin f s n after rs xs y new tag low i = record {
  kept = λ x m w k. let kept : IsKept f n rs x.follows w = i.kept x m w k in record {
    writer = kept.writer;
    old = kept.old;
    drawn = omega (arith, kept.drawn, new.grows w.caller);
    alone = new_alone n after rs y w new kept.drawn kept.alone;
  };
  has = λ x m. each_end (λ r. is_writer_of f r ≡ true → r.tag ≤ x.follows → Member r x.writers) rs y (i.has x m)
      (λ w old. absurd (omega (arith, old, tag w, low x m)));
}

-- Some of the references end

pub names_fewer : (n : ℕ → ℕ) (rs ts : List Live) → ((r : Live) → Member r ts → Member r rs) → Names n rs → Names n ts
names_fewer n rs ts there i = record {
  drawn = λ r m. i.drawn r (there r m);
  alone = λ w m r k. i.alone w (there w m) r (there r k);
}

pub opens_fewer : (f : ℕ) (n : ℕ → ℕ) (rs : List Live) (xs : List CapSnap) (ts : List Live) → ((r : Live) → Member r ts → Member r rs)
    → Opens f n rs xs → Opens f n ts xs
opens_fewer f n rs xs ts there i = record {
  kept = λ x m w k. let kept : IsKept f n rs x.follows w = i.kept x m w k in record {
    writer = kept.writer;
    old = kept.old;
    drawn = kept.drawn;
    alone = λ r l. kept.alone r (there r l);
  };
  has = λ x m r k. i.has x m r (there r k);
}

-- A cap snap is made of the present writers

pub opens_made : (f s mode : ℕ) (n : ℕ → ℕ) (rs : List Live) (xs : List CapSnap) → Names n rs → Each (λ r. is_writer_of f r ≡ true → r.tag ≤ s) rs
    → Opens f n rs xs → Opens f n rs (xs ++ record { follows = s; mode = mode; writers = writers f rs } ∷ [])
opens_made f s mode n rs xs names low i = record {
  kept = each_end (λ x. Each (IsKept f n rs x.follows) x.writers) xs _ i.kept
      (λ w m. let is = filter_each (is_writer_of f) rs w m in record {
        writer = is.0;
        old = low w is.1 is.0;
        drawn = names.drawn w is.1;
        alone = names.alone w is.1;
      });
  has = each_end (λ x. Each (λ r. is_writer_of f r ≡ true → r.tag ≤ x.follows → Member r x.writers) rs) xs _ i.has
      (λ r m w _. filter_has (is_writer_of f) rs r m w);
}

pub opens_sent : (f : ℕ) (n : ℕ → ℕ) (rs : List Live) (x : CapSnap) (xs : List CapSnap) → Opens f n rs (x ∷ xs) → Opens f n rs xs
opens_sent f n rs x xs i = record {
  kept = each_tail (λ y. Each (IsKept f n rs y.follows) y.writers) x xs i.kept;
  has = each_tail (λ y. Each (λ r. is_writer_of f r ≡ true → r.tag ≤ y.follows → Member r y.writers) rs) x xs i.has;
}
