-- Which realm has a snapshot.
use Rattle.std.proofs.Common.{◌≡◌, ℕ, ◌==◌, ◌≤◌, ◌<◌, ◌||◌, ◌&&◌, not, Bool, true, false, cond, List, [], ◌∷◌, ◌++◌, Option, Some, None, is_some, filter, refl, sym, ◌∙◌, ap, arith}
use Rattle.std.specs.List.{list_any}
use Rattle.std.proofs.lemmas.Bool.{eqb-true, false_from_ne_true}
use Rattle.cs_laws.specs.declared.records.Record.{Record}
use Rattle.cs_laws.specs.declared.records.RecordBody.{RecordBody}
use Rattle.cs_laws.specs.declared.records.RecordBody.TheVariants as bodies
use Rattle.cs_laws.specs.Realms.{Own, own, own_then}
use Rattle.cs_laws.specs.Realms as realms
use Rattle.cs_laws.specs.Standing.{dir_in, dir_of, greatest_number, is_removal, is_removed}
use Rattle.cs_records.specs.Log.{IsLog, IsNext}
use Rattle.cs_records.specs.OwnTable.{is_at}
use Rattle.cs_records.proofs.Logs.{by_log, dir_append, either, either_none, greatest_append, or_false, own_append, removed_append, snap_below, snap_dir}

-- a removed snapshot has a number that was drawn
IsBelow : List Record → Type 0
IsBelow rs = (s : ℕ) → is_removed s rs ≡ true → s ≤ greatest_number rs

removed_step : (rs : List Record) (r : Record) → IsBelow rs → IsNext rs r.body → IsBelow (rs ++ r ∷ [])
unfolding IsBelow
removed_step rs r below next s removed = at r.body next refl
  where
    known : is_removal s r.body ≡ false → s ≤ greatest_number (rs ++ r ∷ [])
    known other =
        let stood = sym (removed_append s rs r) ∙ removed in
        let low = below s (sym (or_false (is_removed s rs)) ∙ (ap (λ b. is_removed s rs || b) (sym other) ∙ stood)) in
        omega (arith, greatest_append rs r)

    choice : (t number : ℕ) (c : Bool) → (t == s) ≡ c → IsNext rs (bodies.Removal t number) → r.body ≡ bodies.Removal t number
        → s ≤ greatest_number (rs ++ r ∷ [])
    choice t number true e next is = let same = eqb-true t s e in let low = snap_below t rs next.stands in omega (arith, greatest_append rs r)
    choice t number false e next is = known (ap (λ b. is_removal s b) is ∙ e)

    at : (b : RecordBody) → IsNext rs b → r.body ≡ b → s ≤ greatest_number (rs ++ r ∷ [])
    at (bodies.Snap number d name) next is = known (ap (λ b. is_removal s b) is)
    at (bodies.Request tid op answer) next is = known (ap (λ b. is_removal s b) is)
    at (bodies.Flush snap f tid follows meta) next is = known (ap (λ b. is_removal s b) is)
    at (bodies.Removal t number) next is = choice t number (t == s) refl next is

-- Choices

none_from : {X : Type 0} (o : Option X) → (is_some o ≡ true → ⊥) → o ≡ None
none_from None apart = refl
none_from (Some x) apart = absurd (apart refl)

and_false : (b m : Bool) → (b && not (m || true)) ≡ false
and_false true true = refl
and_false true false = refl
and_false false m = refl

-- a new number has no directory
pub new_dir : (s : ℕ) (rs : List Record) → greatest_number rs < s → dir_of s rs ≡ None
new_dir s rs new = none_from (dir_of s rs) (λ known. let low = snap_below s rs (snap_dir s rs ∙ known) in omega arith)

-- Lists without one number

filtered_out : (s : ℕ) (xs : List ℕ) → list_any (λ x. x == s) (filter (λ x. not (x == s)) xs) ≡ false
filtered_out s [] = refl
filtered_out s (x ∷ xs) = at (x == s) refl (filtered_out s xs)
  where
    at : (c : Bool) → (x == s) ≡ c → list_any (λ y. y == s) (filter (λ y. not (y == s)) xs) ≡ false
        → list_any (λ y. y == s) (cond (not c) (x ∷ filter (λ y. not (y == s)) xs) (filter (λ y. not (y == s)) xs)) ≡ false
    at true e rest = rest
    at false e rest = ap (λ b. b || list_any (λ y. y == s) (filter (λ y. not (y == s)) xs)) e ∙ rest

kept_in : (s t : ℕ) (xs : List ℕ) → (t == s) ≡ false → list_any (λ x. x == s) (filter (λ x. not (x == t)) xs) ≡ list_any (λ x. x == s) xs
kept_in s t [] other = refl
kept_in s t (x ∷ xs) other = at (x == t) refl (kept_in s t xs other)
  where
    at : (c : Bool) → (x == t) ≡ c → list_any (λ y. y == s) (filter (λ y. not (y == t)) xs) ≡ list_any (λ y. y == s) xs
        → list_any (λ y. y == s) (cond (not c) (x ∷ filter (λ y. not (y == t)) xs) (filter (λ y. not (y == t)) xs)) ≡ ((x == s) || list_any (λ y. y == s) xs)
    at true e rest = rest ∙ ap (λ b. b || list_any (λ y. y == s) xs) (sym (ap (λ y. y == s) (eqb-true x t e) ∙ other))
    at false e rest = ap (λ b. (x == s) || b) rest

-- A realm has the unremoved snapshots of its directory

HasThose : List Record → Type 0
HasThose rs = (s d : ℕ) → realms.has_snap s (own d rs) ≡ (is_at d (dir_of s rs) && not (is_removed s rs))

after_flush : (d : ℕ) (u : Option ℕ) (m b : Bool) → b ≡ (is_at d u && not m) → b ≡ (is_at d (either u None) && not (m || false))
after_flush d u m b is = is ∙ (λ i. is_at d (sym (either_none u) i) && not (sym (or_false m) i))

after_snap : (s d n e : ℕ) (o : Own) (u : Option ℕ) (m : Bool) → realms.has_snap s o ≡ (is_at d u && not m) → (n ≡ s → (u ≡ None) × (m ≡ false))
    → realms.has_snap s (cond (e == d) (record { seq = n; snaps = n ∷ o.snaps }) o) ≡ (is_at d (either u (cond (n == s) (Some e) None)) && not (m || false))
after_snap s d n e o u m is new = at (n == s) refl (e == d) refl
  where
    at : (c : Bool) → (n == s) ≡ c → (a : Bool) → (e == d) ≡ a
        → realms.has_snap s (cond a (record { seq = n; snaps = n ∷ o.snaps }) o) ≡ (is_at d (either u (cond c (Some e) None)) && not (m || false))
    at true p true q = let parts = new (eqb-true n s p) in rw (parts.0, parts.1, p, q) refl
    at true p false q = let parts = new (eqb-true n s p) in is ∙ rw (parts.0, parts.1, q) refl
    at false p true q = ap (λ b. b || realms.has_snap s o) p ∙ after_flush d u m (realms.has_snap s o) is
    at false p false q = after_flush d u m (realms.has_snap s o) is

after_removal : (s d t n : ℕ) (o : Own) (u : Option ℕ) (m : Bool) → realms.has_snap s o ≡ (is_at d u && not m)
    → realms.has_snap s (cond (realms.has_snap t o) (record { seq = n; snaps = filter (λ x. not (x == t)) o.snaps }) o)
    ≡ (is_at d (either u None) && not (m || (t == s)))
after_removal s d t n o u m is = at (t == s) refl (realms.has_snap t o) refl
  where
    at : (c : Bool) → (t == s) ≡ c → (a : Bool) → realms.has_snap t o ≡ a
        → realms.has_snap s (cond a (record { seq = n; snaps = filter (λ x. not (x == t)) o.snaps }) o) ≡ (is_at d (either u None) && not (m || c))
    at true p true q =
        ap (λ k. list_any (λ x. x == s) (filter (λ x. not (x == k)) o.snaps)) (eqb-true t s p)
        ∙ (filtered_out s o.snaps ∙ sym (and_false (is_at d (either u None)) m))
    at true p false q = ap (λ k. realms.has_snap k o) (sym (eqb-true t s p)) ∙ (q ∙ sym (and_false (is_at d (either u None)) m))
    at false p true q = kept_in s t o.snaps p ∙ after_flush d u m (realms.has_snap s o) is
    at false p false q = after_flush d u m (realms.has_snap s o) is

those_step : (rs : List Record) (r : Record) → IsBelow rs → HasThose rs → IsNext rs r.body → HasThose (rs ++ r ∷ [])
unfolding IsBelow HasThose
those_step rs r below those next s d =
    ap (λ o. realms.has_snap s o) (own_append d rs r)
    ∙ (at r.body next
    ∙ (λ i. is_at d (sym (dir_append s rs r) i) && not (sym (removed_append s rs r) i)))
  where
    at : (b : RecordBody) → IsNext rs b
        → realms.has_snap s (own_then d (own d rs) b) ≡ (is_at d (either (dir_of s rs) (dir_in s b None)) && not (is_removed s rs || is_removal s b))
    at (bodies.Snap n e name) next =
        after_snap s d n e (own d rs) (dir_of s rs) (is_removed s rs) (those s d)
        (λ same. (
          new_dir s rs (omega (arith, next.next, same)),
          false_from_ne_true (is_removed s rs)
              (λ removed. let low = below s removed in omega (arith, next.next, same)),
        ))
    at (bodies.Request tid op answer) next = after_flush d (dir_of s rs) (is_removed s rs) (realms.has_snap s (own d rs)) (those s d)
    at (bodies.Flush snap f tid follows meta) next = after_flush d (dir_of s rs) (is_removed s rs) (realms.has_snap s (own d rs)) (those s d)
    at (bodies.Removal t n) next = after_removal s d t n (own d rs) (dir_of s rs) (is_removed s rs) (those s d)

pub own_has : (rs : List Record) → IsLog rs → (s d : ℕ) → realms.has_snap s (own d rs) ≡ (is_at d (dir_of s rs) && not (is_removed s rs))
unfolding IsBelow HasThose
own_has rs log =
    let both : IsBelow rs × HasThose rs =
    by_log (λ xs. IsBelow xs × HasThose xs) ((λ s removed. absurd cc), (λ s d. refl))
    (λ xs r p next. (removed_step xs r p.0 next, those_step xs r p.0 p.1 next)) rs log in
    both.1
