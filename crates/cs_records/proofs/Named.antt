-- Which snapshot has a name.
use Rattle.std.proofs.Common.{◌≡◌, ℕ, ◌==◌, ◌||◌, ◌&&◌, not, Bool, true, false, cond, ◌⊎◌, inl, inr, List, [], ◌∷◌, ◌++◌, Option, Some, None, refl, sym, ◌∙◌, ap, eq-eqb}
use Rattle.std.specs.List.{list_any}
use Rattle.std.specs.Option.{option_map_or}
use Rattle.std.specs.Str.{bytes_eq}
use Rattle.std.proofs.lemmas.Bool.{and_from, and_parts, eqb-true, not-true, or_cases, or_left, or_parts, or_right}
use Rattle.std.proofs.lemmas.List.Folds.{list_any-append}
use Rattle.std.proofs.lemmas.Slice.Eq.{bytes_eq-Decides}
use Rattle.cs_laws.specs.declared.records.Record.{Record}
use Rattle.cs_laws.specs.declared.records.RecordBody.{RecordBody}
use Rattle.cs_laws.specs.declared.records.RecordBody.TheVariants as bodies
use Rattle.cs_laws.specs.Standing.{has_snap_named, is_removal, is_removed, is_snap_named}
use Rattle.cs_records.specs.Log.{IsLog, IsNext}
use Rattle.cs_records.specs.Names.{last_named, named_after, named_then}
use Rattle.cs_records.proofs.Logs.{by_log, named_append, or_false, removed_append}

same_answer : (a b : Bool) → (a ≡ true → b ≡ true) → (b ≡ true → a ≡ true) → a ≡ b
same_answer true b to from = sym (to refl)
same_answer false true to from = from refl
same_answer false false to from = refl

-- the snapshot m of d, of this name
abbrev pub is_as : ℕ → ℕ → List ℕ → RecordBody → Bool
is_as m d name (bodies.Snap number e other) = (number == m) && ((e == d) && bytes_eq name other)
is_as m d name _ = false

abbrev pub any_as : ℕ → ℕ → List ℕ → List Record → Bool
any_as m d name rs = list_any (λ r. is_as m d name r.body) rs

named_if : (all : List Record) (m d : ℕ) (name : List ℕ) (b : RecordBody) → is_removed m all ≡ false → is_as m d name b ≡ true
    → is_snap_named d name all b ≡ true
named_if all m d name (bodies.Snap number e other) stays is =
    let outer = and_parts (number == m) ((e == d) && bytes_eq name other) is in
    let inner = and_parts (e == d) (bytes_eq name other) outer.1 in
    let unremoved : not (is_removed number all) ≡ true = ap (λ k. not (is_removed k all)) (eqb-true number m outer.0) ∙ ap not stays in
    and_from (e == d) (bytes_eq name other && not (is_removed number all)) inner.0
    (and_from (bytes_eq name other) (not (is_removed number all)) inner.1 unremoved)
named_if all m d name (bodies.Request tid op answer) stays is = absurd cc
named_if all m d name (bodies.Flush snap f tid follows meta) stays is = absurd cc
named_if all m d name (bodies.Removal s number) stays is = absurd cc

any_named : (all : List Record) (m d : ℕ) (name : List ℕ) (rs : List Record) → is_removed m all ≡ false → any_as m d name rs ≡ true
    → list_any (λ r. is_snap_named d name all r.body) rs ≡ true
any_named all m d name [] stays is = absurd cc
any_named all m d name (r ∷ rs) stays is = elim (or_cases (is_as m d name r.body) (any_as m d name rs) is) [
  | inl here ↦ or_left (is_snap_named d name all r.body) (list_any (λ x. is_snap_named d name all x.body) rs) (named_if all m d name r.body stays here)
  | inr later ↦ or_right (is_snap_named d name all r.body) (list_any (λ x. is_snap_named d name all x.body) rs) (any_named all m d name rs stays later)
]

-- an unremoved snapshot of the name is the last one
IsLast : List Record → Type 0
IsLast rs = (m d : ℕ) (name : List ℕ) → any_as m d name rs ≡ true → is_removed m rs ≡ false → last_named d name rs ≡ Some m

last_step : (rs : List Record) (r : Record) → IsLast rs → IsNext rs r.body → IsLast (rs ++ r ∷ [])
unfolding IsLast
last_step rs r last next m d name is stays =
    let stood = or_parts (is_removed m rs) (is_removal m r.body) (sym (removed_append m rs r) ∙ stays) in
    let any = sym (list_any-append (λ x. is_as m d name x.body) rs (r ∷ [])) ∙ is in
    named_append d name rs r ∙ at r.body next stood.0 (sym (ap (λ b. any_as m d name rs || b) (or_false (is_as m d name r.body))) ∙ any)
  where
    choice : (n e : ℕ) (other : List ℕ) (c : Bool) → ((e == d) && bytes_eq name other) ≡ c → has_snap_named e other rs ≡ false → is_removed m rs ≡ false
        → (any_as m d name rs || ((n == m) && c)) ≡ true → cond c (Some n) (last_named d name rs) ≡ Some m
    choice n e other true at new stood any = elim (or_cases (any_as m d name rs) ((n == m) && true) any) [
      | inl before ↦ absurd (
          let parts = and_parts (e == d) (bytes_eq name other) at in
          let taken : has_snap_named e other rs ≡ true =
          (λ i. has_snap_named (eqb-true e d parts.0 i) (sym ((bytes_eq-Decides name other).0 parts.1) i) rs) ∙ any_named rs m d name rs stood before in
          cc)
      | inr now ↦ ap Some (eqb-true n m (and_parts (n == m) true now).0)
    ]
    choice n e other false at new stood any = elim (or_cases (any_as m d name rs) ((n == m) && false) any) [
      | inl before ↦ last m d name before stood
      | inr now ↦ absurd (let never : false ≡ true = (and_parts (n == m) false now).1 in cc)
    ]

    at : (b : RecordBody) → IsNext rs b → is_removed m rs ≡ false → (any_as m d name rs || is_as m d name b) ≡ true
        → named_then d name b (last_named d name rs) ≡ Some m
    at (bodies.Snap n e other) next stood any = choice n e other ((e == d) && bytes_eq name other) refl next.new stood any
    at (bodies.Request tid op answer) next stood any = last m d name (sym (or_false (any_as m d name rs)) ∙ any) stood
    at (bodies.Flush snap f tid follows meta) next stood any = last m d name (sym (or_false (any_as m d name rs)) ∙ any) stood
    at (bodies.Removal s n) next stood any = last m d name (sym (or_false (any_as m d name rs)) ∙ any) stood

is_last : (rs : List Record) → IsLog rs → (m d : ℕ) (name : List ℕ) → any_as m d name rs ≡ true → is_removed m rs ≡ false → last_named d name rs ≡ Some m
unfolding IsLast
is_last rs log = by_log IsLast (λ m d name is stays. absurd cc) last_step rs log

-- the last one of the name has it
named_from : (m d : ℕ) (name : List ℕ) (was : Option ℕ) (rs : List Record) → named_after d name was rs ≡ Some m → (was ≡ Some m) ⊎ (any_as m d name rs ≡ true)
named_from m d name was [] is = inl is
named_from m d name was (r ∷ rs) is = elim (named_from m d name (named_then d name r.body was) rs is) [
  | inl here ↦ at r.body here
  | inr later ↦ inr (or_right (is_as m d name r.body) (any_as m d name rs) later)
]
  where
    choice : (n : ℕ) (c : Bool) → cond c (Some n) was ≡ Some m → (was ≡ Some m) ⊎ ((((n == m) && c) || any_as m d name rs) ≡ true)
    choice n true is = inr (or_left ((n == m) && true) (any_as m d name rs) (and_from (n == m) true (eq-eqb n m (let same : Some n ≡ Some m = is in cc)) refl))
    choice n false is = inl is

    at : (b : RecordBody) → named_then d name b was ≡ Some m → (was ≡ Some m) ⊎ ((is_as m d name b || any_as m d name rs) ≡ true)
    at (bodies.Snap n e other) here = choice n ((e == d) && bytes_eq name other) here
    at (bodies.Request tid op answer) here = inl here
    at (bodies.Flush snap f tid follows meta) here = inl here
    at (bodies.Removal s n) here = inl here

-- an unremoved snapshot that has the name
named_as : (all : List Record) (d : ℕ) (name : List ℕ) (rs : List Record) → list_any (λ r. is_snap_named d name all r.body) rs ≡ true
    → (m : ℕ) × (any_as m d name rs ≡ true) × (is_removed m all ≡ false)
named_as all d name [] is = absurd cc
named_as all d name (r ∷ rs) is = elim (or_cases (is_snap_named d name all r.body) (list_any (λ x. is_snap_named d name all x.body) rs) is) [
  | inl here ↦ at r.body here
  | inr later ↦ (let found = named_as all d name rs later in (found.0, or_right (is_as found.0 d name r.body) (any_as found.0 d name rs) found.1, found.2))
]
  where
    at : (b : RecordBody) → is_snap_named d name all b ≡ true → (m : ℕ) × ((is_as m d name b || any_as m d name rs) ≡ true) × (is_removed m all ≡ false)
    at (bodies.Snap n e other) here =
        let outer = and_parts (e == d) (bytes_eq name other && not (is_removed n all)) here in
        let inner = and_parts (bytes_eq name other) (not (is_removed n all)) outer.1 in (
          n,
          or_left ((n == n) && ((e == d) && bytes_eq name other)) (any_as n d name rs)
              (and_from (n == n) ((e == d) && bytes_eq name other) (eq-eqb n n refl) (and_from (e == d) (bytes_eq name other) outer.0 inner.0)),
          not-true (is_removed n all) inner.1,
        )
    at (bodies.Request tid op answer) here = absurd cc
    at (bodies.Flush snap f tid follows meta) here = absurd cc
    at (bodies.Removal s n) here = absurd cc

-- a name is taken where its last snapshot isn't removed
pub name_taken : (rs : List Record) → IsLog rs → (d : ℕ) (name : List ℕ)
    → has_snap_named d name rs ≡ option_map_or (λ m. not (is_removed m rs)) (last_named d name rs) false
name_taken rs log d name = same_answer (has_snap_named d name rs) (option_map_or (λ m. not (is_removed m rs)) (last_named d name rs) false) taken free
  where
    taken : has_snap_named d name rs ≡ true → option_map_or (λ m. not (is_removed m rs)) (last_named d name rs) false ≡ true
    taken is =
        let found = named_as rs d name rs is in
        ap (λ o. option_map_or (λ m. not (is_removed m rs)) o false) (is_last rs log found.0 d name found.1 found.2) ∙ ap not found.2

    last : (o : Option ℕ) → last_named d name rs ≡ o → option_map_or (λ m. not (is_removed m rs)) o false ≡ true → has_snap_named d name rs ≡ true
    last None is holds = absurd cc
    last (Some m) is holds = elim (named_from m d name None rs is) [
      | inl here ↦ absurd (let never : None ≡ Some m = here in cc)
      | inr any ↦ any_named rs m d name rs (not-true (is_removed m rs) holds) any
    ]

    free : option_map_or (λ m. not (is_removed m rs)) (last_named d name rs) false ≡ true → has_snap_named d name rs ≡ true
    free holds = last (last_named d name rs) refl holds
