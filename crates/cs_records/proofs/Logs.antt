-- Logs that grow by one record.
use Rattle.std.proofs.Common.{◌≡◌, ℕ, ◌==◌, ◌+◌, ◌<◌, ◌≤◌, ◌||◌, not, Bool, true, false, cond, List, [], ◌∷◌, ◌++◌, Option, Some, None, is_some, max, filter, refl, sym, ◌∙◌, ap, subst, arith, append_assoc, append-nil}
use Rattle.std.specs.List.{list_any}
use Rattle.std.proofs.lemmas.Bool.{eqb-true}
use Rattle.std.proofs.lemmas.List.Folds.{list_any-append}
use Rattle.cs_laws.specs.declared.records.Record.{Record}
use Rattle.cs_laws.specs.declared.records.RecordBody.{RecordBody}
use Rattle.cs_laws.specs.declared.records.RecordBody.TheVariants as bodies
use Rattle.cs_laws.specs.Made.{made_of, makes_dir}
use Rattle.cs_laws.specs.Realms.{Own, is_snap_of, own, own_after, own_then, number_of, since_from}
use Rattle.cs_records.specs.Sinces.{first_of, made_from}
use Rattle.std.specs.Option.{unwrap_or}
use Rattle.cs_laws.specs.Realms as realms
use Rattle.cs_laws.specs.Standing.{dir_in, dir_of, greatest_number, has_snap, is_removal, is_removed, is_snap}
use Rattle.cs_records.specs.Log.{IsLog, IsLogAfter, IsNext}
use Rattle.cs_records.specs.Names.{last_named, named_after, named_then}
use Rattle.cs_records.specs.OwnTable.{no_own}

pub or_false : (b : Bool) → (b || false) ≡ b
or_false true = refl
or_false false = refl

-- the first that is there
abbrev pub either : {X : Type 0} → Option X → Option X → Option X
either (Some x) o = Some x
either None o = o

-- One more record

pub greatest_append : (rs : List Record) (r : Record) → greatest_number (rs ++ r ∷ []) ≡ max (greatest_number rs) (number_of r.body)
greatest_append [] r = omega arith
greatest_append (x ∷ rs) r = omega (arith, greatest_append rs r)

pub either_none : {X : Type 0} (o : Option X) → either o None ≡ o
either_none (Some x) = refl
either_none None = refl

pub either_cond : {X : Type 0} (c : Bool) (x : X) (o z : Option X) → cond c (Some x) (either o z) ≡ either (cond c (Some x) o) z
either_cond true x o z = refl
either_cond false x o z = refl

either_in : (s : ℕ) (b : RecordBody) (o z : Option ℕ) → dir_in s b (either o z) ≡ either (dir_in s b o) z
either_in s (bodies.Snap number d name) o z = either_cond (number == s) d o z
either_in s (bodies.Request tid op answer) o z = refl
either_in s (bodies.Flush snap f tid follows meta) o z = refl
either_in s (bodies.Removal t number) o z = refl

pub dir_append : (s : ℕ) (rs : List Record) (r : Record) → dir_of s (rs ++ r ∷ []) ≡ either (dir_of s rs) (dir_in s r.body None)
dir_append s [] r = refl
dir_append s (x ∷ rs) r = ap (λ o. dir_in s x.body o) (dir_append s rs r) ∙ either_in s x.body (dir_of s rs) (dir_in s r.body None)

-- a snapshot keeps its directory whatever follows
pub dir_stays : (s d : ℕ) (rs ss : List Record) → dir_of s rs ≡ Some d → dir_of s (rs ++ ss) ≡ Some d
dir_stays s d [] ss is = absurd cc
dir_stays s d (x ∷ rs) ss is = at x.body is (dir_stays s d rs ss)
  where
    choice : (c : Bool) (e : ℕ) → cond c (Some e) (dir_of s rs) ≡ Some d → (dir_of s rs ≡ Some d → dir_of s (rs ++ ss) ≡ Some d)
        → cond c (Some e) (dir_of s (rs ++ ss)) ≡ Some d
    choice true e is rest = is
    choice false e is rest = rest is

    at : (b : RecordBody) → dir_in s b (dir_of s rs) ≡ Some d → (dir_of s rs ≡ Some d → dir_of s (rs ++ ss) ≡ Some d)
        → dir_in s b (dir_of s (rs ++ ss)) ≡ Some d
    at (bodies.Snap number e name) is rest = choice (number == s) e is rest
    at (bodies.Request tid op answer) is rest = rest is
    at (bodies.Flush snap f tid follows meta) is rest = rest is
    at (bodies.Removal t number) is rest = rest is

-- a snapshot stands where it has a directory
pub snap_dir : (s : ℕ) (rs : List Record) → has_snap s rs ≡ is_some (dir_of s rs)
snap_dir s [] = refl
snap_dir s (x ∷ rs) = ap (λ b. is_snap s x.body || b) (snap_dir s rs) ∙ at x.body (dir_of s rs)
  where
    choice : (c : Bool) (d : ℕ) (o : Option ℕ) → (c || is_some o) ≡ is_some (cond c (Some d) o)
    choice true d o = refl
    choice false d o = refl

    at : (b : RecordBody) (o : Option ℕ) → (is_snap s b || is_some o) ≡ is_some (dir_in s b o)
    at (bodies.Snap number d name) o = choice (number == s) d o
    at (bodies.Request tid op answer) o = refl
    at (bodies.Flush snap f tid follows meta) o = refl
    at (bodies.Removal t number) o = refl

pub removed_append : (s : ℕ) (rs : List Record) (r : Record) → is_removed s (rs ++ r ∷ []) ≡ (is_removed s rs || is_removal s r.body)
removed_append s rs r = list_any-append (λ x. is_removal s x.body) rs (r ∷ []) ∙ ap (λ b. is_removed s rs || b) (or_false (is_removal s r.body))

named_after_append : (d : ℕ) (name : List ℕ) (was : Option ℕ) (rs ss : List Record)
    → named_after d name was (rs ++ ss) ≡ named_after d name (named_after d name was rs) ss
named_after_append d name was [] ss = refl
named_after_append d name was (r ∷ rs) ss = named_after_append d name (named_then d name r.body was) rs ss

pub named_append : (d : ℕ) (name : List ℕ) (rs : List Record) (r : Record) → last_named d name (rs ++ r ∷ []) ≡ named_then d name r.body (last_named d name rs)
named_append d name rs r = named_after_append d name None rs (r ∷ [])

own_after_append : (d : ℕ) (o : Own) (rs ss : List Record) → own_after d o (rs ++ ss) ≡ own_after d (own_after d o rs) ss
own_after_append d o [] ss = refl
own_after_append d o (r ∷ rs) ss = own_after_append d (own_then d o r.body) rs ss

pub own_append : (d : ℕ) (rs : List Record) (r : Record) → own d (rs ++ r ∷ []) ≡ own_then d (own d rs) r.body
own_append d rs r = own_after_append d no_own rs (r ∷ [])

pub had_one_append : (d : ℕ) (rs : List Record) (r : Record)
    → list_any (λ x. is_snap_of d x.body) (rs ++ r ∷ []) ≡ (list_any (λ x. is_snap_of d x.body) rs || is_snap_of d r.body)
had_one_append d rs r =
    list_any-append (λ x. is_snap_of d x.body) rs (r ∷ []) ∙ ap (λ b. list_any (λ x. is_snap_of d x.body) rs || b) (or_false (is_snap_of d r.body))

-- a directory without a snapshot has nothing of its own
pub no_own_yet : (d : ℕ) (rs : List Record) → list_any (λ x. is_snap_of d x.body) rs ≡ false → own d rs ≡ no_own
no_own_yet d [] none = refl
no_own_yet d (r ∷ rs) none = at r.body none (no_own_yet d rs)
  where
    choice : (c : Bool) (w : Own) → (c || list_any (λ x. is_snap_of d x.body) rs) ≡ false
        → (list_any (λ x. is_snap_of d x.body) rs ≡ false → own_after d no_own rs ≡ no_own)
        → own_after d (cond c w no_own) rs ≡ no_own
    choice true w none rest = absurd cc
    choice false w none rest = rest none

    at : (b : RecordBody) → (is_snap_of d b || list_any (λ x. is_snap_of d x.body) rs) ≡ false
        → (list_any (λ x. is_snap_of d x.body) rs ≡ false → own_after d no_own rs ≡ no_own)
        → own_after d (own_then d no_own b) rs ≡ no_own
    at (bodies.Snap number e name) none rest = choice (e == d) (record { seq = number; snaps = number ∷ [] }) none rest
    at (bodies.Request tid op answer) none rest = rest none
    at (bodies.Flush snap f tid follows meta) none rest = rest none
    at (bodies.Removal t number) none rest = rest none

-- Directories that requests made

pub made_append : (d n : ℕ) (rs : List Record) (r : Record)
    → made_from d n (rs ++ r ∷ []) ≡ first_of (made_from d n rs) (makes_dir d (made_of r.body)) (max n (greatest_number rs))
made_append d n [] r = ap (λ k. cond (makes_dir d (made_of r.body)) (Some (k + 1)) None) (let same : n ≡ max n 0 = omega arith in same)
made_append d n (x ∷ rs) r = at (makes_dir d (made_of x.body)) (made_append d (max n (number_of x.body)) rs r)
  where
    at : (b : Bool)
        → made_from d (max n (number_of x.body)) (rs ++ r ∷ [])
        ≡ first_of (made_from d (max n (number_of x.body)) rs) (makes_dir d (made_of r.body)) (max (max n (number_of x.body)) (greatest_number rs))
        → cond b (Some (n + 1)) (made_from d (max n (number_of x.body)) (rs ++ r ∷ []))
        ≡ first_of (cond b (Some (n + 1)) (made_from d (max n (number_of x.body)) rs)) (makes_dir d (made_of r.body)) (max n (max (number_of x.body) (greatest_number rs)))
    at true rest = refl
    at false rest =
        rest ∙ ap (first_of (made_from d (max n (number_of x.body)) rs) (makes_dir d (made_of r.body)))
        (let same : max (max n (number_of x.body)) (greatest_number rs) ≡ max n (max (number_of x.body) (greatest_number rs)) = omega arith in same)

-- a record that makes nothing
pub first_none : (o : Option ℕ) (n : ℕ) → first_of o false n ≡ o
first_none (Some s) n = refl
first_none None n = refl

pub since_made : (d n : ℕ) (rs : List Record) → since_from d n rs ≡ unwrap_or (made_from d n rs) 1
since_made d n [] = refl
since_made d n (r ∷ rs) = at (makes_dir d (made_of r.body)) (since_made d (max n (number_of r.body)) rs)
  where
    at : (b : Bool) → since_from d (max n (number_of r.body)) rs ≡ unwrap_or (made_from d (max n (number_of r.body)) rs) 1
        → cond b (n + 1) (since_from d (max n (number_of r.body)) rs) ≡ unwrap_or (cond b (Some (n + 1)) (made_from d (max n (number_of r.body)) rs)) 1
    at true rest = refl
    at false rest = rest

-- Which records may follow

pub log_append : (before rs : List Record) (r : Record) → IsLogAfter before rs → IsNext (before ++ rs) r.body → IsLogAfter before (rs ++ r ∷ [])
log_append before [] r log next = (subst (λ xs. IsNext xs r.body) (append-nil before) next, tt)
log_append before (x ∷ rs) r log next =
    (log.0, log_append (before ++ x ∷ []) rs r log.1 (subst (λ xs. IsNext xs r.body) (sym (append_assoc before (x ∷ []) rs)) next))

pub log_front : (before xs ys : List Record) → IsLogAfter before (xs ++ ys) → IsLogAfter before xs
log_front before [] ys log = tt
log_front before (x ∷ xs) ys log = (log.0, log_front (before ++ x ∷ []) xs ys log.1)

pub log_next : (before xs : List Record) (r : Record) (ys : List Record) → IsLogAfter before (xs ++ r ∷ ys) → IsNext (before ++ xs) r.body
log_next before [] r ys log = subst (λ zs. IsNext zs r.body) (sym (append-nil before)) log.0
log_next before (x ∷ xs) r ys log = subst (λ zs. IsNext zs r.body) (append_assoc before (x ∷ []) xs) (log_next (before ++ x ∷ []) xs r ys log.1)

by_log_after : (P : List Record → Type 0) → ((rs : List Record) (r : Record) → P rs → IsNext rs r.body → P (rs ++ r ∷ [])) → (before rs : List Record)
    → P before → IsLogAfter before rs → P (before ++ rs)
by_log_after P step before [] p log = subst P (sym (append-nil before)) p
by_log_after P step before (r ∷ rs) p log = subst P (append_assoc before (r ∷ []) rs) (by_log_after P step (before ++ r ∷ []) rs (step before r p log.0) log.1)

-- an induction over logs
pub by_log : (P : List Record → Type 0) → P [] → ((rs : List Record) (r : Record) → P rs → IsNext rs r.body → P (rs ++ r ∷ [])) → (rs : List Record)
    → IsLog rs → P rs
by_log P none step rs log = by_log_after P step [] rs none log

-- Numbers

number_few : (rs : List Record) (b : RecordBody) → IsNext rs b → number_of b < 99999
number_few rs (bodies.Request tid op answer) next = omega arith
number_few rs (bodies.Flush snap f tid follows meta) next = omega arith
number_few rs (bodies.Snap number d name) next = omega (arith, next.next, next.room)
number_few rs (bodies.Removal s number) next = omega (arith, next.next, next.room)

pub log_few : (rs : List Record) → IsLog rs → greatest_number rs < 99999
log_few rs log =
    by_log (λ xs. greatest_number xs < 99999) (omega arith) (λ xs r low next. omega (arith, low, greatest_append xs r, number_few xs r.body next)) rs log

pub snap_below : (s : ℕ) (rs : List Record) → has_snap s rs ≡ true → s ≤ greatest_number rs
snap_below s [] stands = absurd cc
snap_below s (x ∷ rs) stands = at x.body stands (snap_below s rs)
  where
    choice : (c : Bool) (number : ℕ) → (c ≡ true → number ≡ s) → (c || has_snap s rs) ≡ true → (has_snap s rs ≡ true → s ≤ greatest_number rs)
        → s ≤ max number (greatest_number rs)
    choice true number is stands rest = let same = is refl in omega arith
    choice false number is stands rest = let low = rest stands in omega arith

    at : (b : RecordBody) → (is_snap s b || has_snap s rs) ≡ true → (has_snap s rs ≡ true → s ≤ greatest_number rs) → s ≤ max (number_of b) (greatest_number rs)
    at (bodies.Snap number d name) stands rest = choice (number == s) number (λ e. eqb-true number s e) stands rest
    at (bodies.Request tid op answer) stands rest = let low = rest stands in omega arith
    at (bodies.Flush snap f tid follows meta) stands rest = let low = rest stands in omega arith
    at (bodies.Removal t number) stands rest = let low = rest stands in omega arith

seq_then : (d : ℕ) (o : Own) (b : RecordBody) → (own_then d o b).seq ≤ max o.seq (number_of b)
seq_then d o (bodies.Snap number e name) = choice (e == d)
  where
    choice : (c : Bool) → (cond c (record { seq = number; snaps = number ∷ o.snaps }) o).seq ≤ max o.seq number
    choice true = omega arith
    choice false = omega arith
seq_then d o (bodies.Request tid op answer) = omega arith
seq_then d o (bodies.Flush snap f tid follows meta) = omega arith
seq_then d o (bodies.Removal t number) = choice (realms.has_snap t o)
  where
    choice : (c : Bool) → (cond c (record { seq = number; snaps = filter (λ x. not (x == t)) o.snaps }) o).seq ≤ max o.seq number
    choice true = omega arith
    choice false = omega arith

seq_after : (d : ℕ) (o : Own) (rs : List Record) → (own_after d o rs).seq ≤ max o.seq (greatest_number rs)
seq_after d o [] = omega arith
seq_after d o (r ∷ rs) = omega (arith, seq_then d o r.body, seq_after d (own_then d o r.body) rs)

pub seq_below : (d : ℕ) (rs : List Record) → (own d rs).seq ≤ greatest_number rs
seq_below d rs = omega (arith, seq_after d no_own rs)
