-- A log whose records fit together: each snapshot is of a directory that is known by then, and each directory that a request makes is new.
use Rattle.std.proofs.Common.{◌≡◌, refl, sym, ap, subst, ℕ, ◌==◌, ◌||◌, ◌+◌, Bool, true, false, cond, max, List, [], ◌∷◌, ◌++◌, Some, ⊎_elim}
use Rattle.std.specs.List.{list_any}
use Rattle.std.proofs.lemmas.Bool.{both_ways, eqb-true, false_from_ne_true, or_cases, or_left}
use Rattle.cs_laws.specs.declared.records.Record.{Record}
use Rattle.cs_laws.specs.declared.records.RecordBody.{RecordBody}
use Rattle.cs_laws.specs.declared.records.RecordBody.TheVariants as bodies
use Rattle.cs_laws.specs.Made.{made_by, made_of, makes_dir}
use Rattle.cs_laws.specs.Realms.{is_realm, is_snap_of, number_of, since_from}

-- dir: the directories that are known
abbrev pub with_dirs : RecordBody → (ℕ → Bool) → ℕ → Bool
with_dirs b dir d = dir d || makes_dir d (made_of b)

abbrev pub dirs_after : List Record → (ℕ → Bool) → ℕ → Bool
dirs_after [] dir = dir
dirs_after (r ∷ rs) dir = dirs_after rs (λ d. with_dirs r.body dir d)

abbrev pub GoodRecord : (ℕ → Bool) → RecordBody → Type 0
GoodRecord dir (bodies.Request tid op answer) = (d : ℕ) → makes_dir d (made_by (Some op) answer) ≡ true → dir d ≡ false
GoodRecord dir (bodies.Flush snap f tid follows meta) = Unit {0}
GoodRecord dir (bodies.Snap n d name) = dir d ≡ true
GoodRecord dir (bodies.Removal s n) = Unit {0}

abbrev pub GoodLog : (ℕ → Bool) → List Record → Type 0
GoodLog dir [] = Unit {0}
GoodLog dir (r ∷ rs) = GoodRecord dir r.body × GoodLog (λ d. with_dirs r.body dir d) rs

-- Parts of a log

pub good_end : (dir : ℕ → Bool) (rs : List Record) (r : Record) → GoodLog dir rs → GoodRecord (dirs_after rs dir) r.body → GoodLog dir (rs ++ r ∷ [])
good_end dir [] r i good = (good, tt)
good_end dir (x ∷ rs) r i good = (i.0, good_end (λ d. with_dirs x.body dir d) rs r i.1 good)

pub good_front : (dir : ℕ → Bool) (us ws : List Record) → GoodLog dir (us ++ ws) → GoodLog dir us
good_front dir [] ws i = tt
good_front dir (r ∷ us) ws i = (i.0, good_front (λ d. with_dirs r.body dir d) us ws i.1)

pub good_within : (dir : ℕ → Bool) (us : List Record) (r : Record) (ws : List Record) → GoodLog dir (us ++ r ∷ ws) → GoodRecord (dirs_after us dir) r.body
good_within dir [] r ws i = i.0
good_within dir (x ∷ us) r ws i = good_within (λ d. with_dirs x.body dir d) us r ws i.1

-- what is known stays known
pub dirs_grow : (dir : ℕ → Bool) (rs : List Record) (d : ℕ) → dir d ≡ true → dirs_after rs dir d ≡ true
dirs_grow dir [] d is = is
dirs_grow dir (r ∷ rs) d is = dirs_grow (λ k. with_dirs r.body dir k) rs d (or_left (dir d) _ is)

-- each realm is known
pub realm_dir : (dir : ℕ → Bool) (rs : List Record) (d : ℕ) → dir 1 ≡ true → GoodLog dir rs → is_realm rs d ≡ true → dirs_after rs dir d ≡ true
realm_dir dir rs d root good is =
    ⊎_elim (λ top. dirs_grow dir rs d (subst (λ k. dir k ≡ true) (sym (eqb-true d 1 top)) root)) (λ there. among dir rs good there) (or_cases (d == 1) _ is)
  where
    of_snap : (before : ℕ → Bool) (b : RecordBody) → GoodRecord before b → is_snap_of d b ≡ true → before d ≡ true
    of_snap before (bodies.Request tid op answer) i same = absurd (both_ways false refl same)
    of_snap before (bodies.Flush snap f tid follows meta) i same = absurd (both_ways false refl same)
    of_snap before (bodies.Snap n k name) i same = subst (λ j. before j ≡ true) (eqb-true k d same) i
    of_snap before (bodies.Removal s n) i same = absurd (both_ways false refl same)

    among : (before : ℕ → Bool) (xs : List Record) → GoodLog before xs → list_any (λ r. is_snap_of d r.body) xs ≡ true → dirs_after xs before d ≡ true
    among before [] i there = absurd (both_ways false refl there)
    among before (x ∷ xs) i there =
        ⊎_elim
        (λ here. dirs_grow (λ k. with_dirs x.body before k) xs d (or_left (before d) _ (of_snap before x.body i.0 here)))
        (λ later. among (λ k. with_dirs x.body before k) xs i.1 later)
        (or_cases (is_snap_of d x.body) _ there)

-- a record makes no directory that is a realm
abbrev pub MakesNoRealm : List Record → RecordBody → Type 0
MakesNoRealm rs b = (d : ℕ) → is_realm rs d ≡ true → makes_dir d (made_of b) ≡ false

none_of : (dir : ℕ → Bool) (b : RecordBody) (d : ℕ) → GoodRecord dir b → dir d ≡ true → makes_dir d (made_of b) ≡ false
none_of dir (bodies.Request tid op answer) d good old =
    false_from_ne_true (makes_dir d (made_by (Some op) answer)) (λ is. both_ways (dir d) (good d is) old)
none_of dir (bodies.Flush snap f tid follows meta) d good old = refl
none_of dir (bodies.Snap n k name) d good old = refl
none_of dir (bodies.Removal s n) d good old = refl

pub makes_no_realm : (dir : ℕ → Bool) (us : List Record) (r : Record) (ws : List Record) → dir 1 ≡ true → GoodLog dir (us ++ r ∷ ws) → MakesNoRealm us r.body
makes_no_realm dir us r ws root good d is =
    none_of (dirs_after us dir) r.body d (good_within dir us r ws good) (realm_dir dir us d root (good_front dir us (r ∷ ws) good) is)

-- where a directory isn't made by one more record, that record doesn't say when it was
pub since_end : (d n : ℕ) (rs : List Record) (r : Record) → makes_dir d (made_of r.body) ≡ false → since_from d n (rs ++ r ∷ []) ≡ since_from d n rs
since_end d n [] r none = ap (λ b. cond b (n + 1) 1) none
since_end d n (x ∷ rs) r none =
    ap (λ k. cond (makes_dir d (made_of x.body)) (n + 1) k) (since_end d (max n (number_of x.body)) rs r none)
