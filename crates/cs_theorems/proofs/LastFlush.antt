-- What the last flush of a file before a state is: one among the records, that follows at least what each other such one does,
-- and of those that follow the same the one with the greatest tid.
use Rattle.std.proofs.Common.{◌≡◌, refl, sym, ap, ◌∙◌, ℕ, ◌<◌, ◌≤◌, true, false, ◌==◌, ◌&&◌, nat_lt, List, [], ◌∷◌, arith, inl, inr, ⊎_elim, Option, Some, None}
use Rattle.std.proofs.lemmas.Bool.{and_cases, and_from, and_parts, both_ways, cond_both, eq-eqb, eqb-true, ltb-false, ltb-true, or_cases, or_parts}
use Rattle.cs_laws.specs.declared.objects.At.{At}
use Rattle.cs_laws.specs.declared.records.Record.{Record}
use Rattle.cs_laws.specs.declared.records.RecordBody.{RecordBody}
use Rattle.cs_laws.specs.declared.records.RecordBody.TheVariants as bodies
use Rattle.cs_laws.specs.Flushes.{Flush, flush_record}
use Rattle.cs_laws.specs.Metadata.{is_behind, last_flush, later_of, with_flush}
use Rattle.cs_laws.specs.Shown.{is_before}
use Rattle.cs_laws.specs.Carried.{flush_in}
use Rattle.cs_theorems.proofs.Listed.{Member, Each, each_nil, each_cons}

-- a flush of the file that is of the time before the state
abbrev pub IsOf : ℕ → At → Flush → Type 0
IsOf f a x = (x.file ≡ f) × (is_before a x.follows ≡ true)

-- the record is no such flush
abbrev pub IsOther : ℕ → At → RecordBody → Type 0
IsOther f a body = (x : Flush) → body ≡ (flush_record x).body → IsOf f a x → ⊥

-- y follows a smaller number than x does, or the same under at most the same tid
abbrev pub AtMost : Flush → Flush → Type 0
AtMost y x = (y.follows ≤ x.follows) × (y.follows ≡ x.follows → y.tid ≤ x.tid)

-- where it is one, it is at most x
abbrev pub IsUpto : ℕ → At → Flush → RecordBody → Type 0
IsUpto f a x body = (y : Flush) → body ≡ (flush_record y).body → IsOf f a y → AtMost y x

abbrev pub IsLast : ℕ → At → List Record → Option Flush → Type 0
IsLast f a rs None = Each (λ r. IsOther f a r.body) rs
IsLast f a rs (Some x) = Member (flush_record x) rs × IsOf f a x × Each (λ r. IsUpto f a x r.body) rs

-- records of one flush are alike
record Alike (x y : Flush) : Type 0 where
  file : x.file ≡ y.file
  follows : x.follows ≡ y.follows
  tid : x.tid ≡ y.tid

alike : (x y : Flush) → (flush_record x).body ≡ (flush_record y).body → Alike x y
alike x y is = record { file = cc; follows = cc; tid = cc }

same_at_most : (x : Flush) → AtMost x x
same_at_most x = (omega arith, λ same. omega arith)

behind : (x y : Flush) → is_behind x y ≡ true → AtMost x y
behind x y is =
    ⊎_elim
    (λ more. let less : x.follows < y.follows = ltb-true x.follows y.follows more in (omega arith, λ same. absurd (omega arith)))
    (λ both.
    let parts = and_parts (x.follows == y.follows) (nat_lt x.tid y.tid) both in
    let same : x.follows ≡ y.follows = eqb-true x.follows y.follows parts.0 in
    let less : x.tid < y.tid = ltb-true x.tid y.tid parts.1 in
    (omega arith, λ _. omega arith))
    (or_cases (nat_lt x.follows y.follows) ((x.follows == y.follows) && nat_lt x.tid y.tid) is)

not_behind : (x y : Flush) → is_behind x y ≡ false → AtMost y x
not_behind x y isnt =
    let parts = or_parts (nat_lt x.follows y.follows) ((x.follows == y.follows) && nat_lt x.tid y.tid) isnt in (
      ltb-false x.follows y.follows parts.0,
      λ same. ⊎_elim
          (λ other. absurd (both_ways (x.follows == y.follows) other (eq-eqb x.follows y.follows (sym same))))
          (λ most. ltb-false x.tid y.tid most)
          (and_cases (x.follows == y.follows) (nat_lt x.tid y.tid) parts.1),
    )

at_most_both : (x y z : Flush) → AtMost x y → AtMost y z → AtMost x z
at_most_both x y z low up = (omega (arith, low.0, up.0), λ same. on (omega (arith, same, low.0, up.0)) (omega (arith, same, low.0, up.0)))
  where
    on : x.follows ≡ y.follows → y.follows ≡ z.follows → x.tid ≤ z.tid
    on first then = omega (arith, low.1 first, up.1 then)

upto_more : (f : ℕ) (a : At) (x y : Flush) (rs : List Record) → AtMost x y → Each (λ r. IsUpto f a x r.body) rs → Each (λ r. IsUpto f a y r.body) rs
upto_more f a x y rs more i r there z is of = at_most_both z x y (i r there z is of) more

own_upto : (f : ℕ) (a : At) (x y : Flush) → AtMost x y → IsUpto f a y (flush_record x).body
own_upto f a x y low z is of =
    let same : Alike x z = alike x z is in
    (omega (arith, low.0, same.follows), λ now. on same now)
  where
    on : Alike x z → z.follows ≡ y.follows → z.tid ≤ y.tid
    on same now = omega (arith, low.1 (same.follows ∙ now), same.tid)

-- a flush of the file before the others
last_more : (f : ℕ) (a : At) (x : Flush) (rs : List Record) (best : Option Flush) → IsOf f a x → IsLast f a rs best
    → IsLast f a (flush_record x ∷ rs) (later_of x best)
last_more f a x rs None of i = (
  inl refl,
  of,
  each_cons (λ r. IsUpto f a x r.body) (flush_record x) rs (own_upto f a x x (same_at_most x)) (λ r there y is fits. absurd (i r there y is fits)),
)
last_more f a x rs (Some y) of i =
    cond_both (is_behind x y) (Some y) (Some x) (IsLast f a (flush_record x ∷ rs))
    (λ is. (
      inr i.0,
      i.1,
      each_cons (λ r. IsUpto f a y r.body) (flush_record x) rs (own_upto f a x y (behind x y is)) i.2,
    ))
    (λ isnt. (
      inl refl,
      of,
      each_cons (λ r. IsUpto f a x r.body) (flush_record x) rs (own_upto f a x x (same_at_most x)) (upto_more f a y x rs (not_behind x y isnt) i.2),
    ))

-- a record that is none
last_beside : (f : ℕ) (a : At) (r : Record) (rs : List Record) (best : Option Flush) → IsOther f a r.body → IsLast f a rs best
    → IsLast f a (r ∷ rs) best
last_beside f a r rs None other i = each_cons (λ k. IsOther f a k.body) r rs other i
last_beside f a r rs (Some y) other i =
    (inr i.0, i.1, each_cons (λ k. IsUpto f a y k.body) r rs (λ x is of. absurd (other x is of)) i.2)

other_file : (f : ℕ) (a : At) (x y : Flush) → (flush_record x).body ≡ (flush_record y).body → IsOf f a y
    → ((x.file == f) && is_before a x.follows) ≡ false → ⊥
other_file f a x y is of isnt =
    let same = alike x y is in
    both_ways ((x.file == f) && is_before a x.follows) isnt
    (and_from (x.file == f) (is_before a x.follows) (eq-eqb x.file f (same.file ∙ of.0)) (ap (is_before a) same.follows ∙ of.1))

-- by the record's body
last_with : (f : ℕ) (a : At) (body : RecordBody) (rs : List Record) (best : Option Flush) → IsLast f a rs best
    → IsLast f a (record { body = body } ∷ rs) (with_flush f a (flush_in body) best)
last_with f a (bodies.Flush snap g tid follows meta) rs best i =
    let x : Flush = record { tid = tid; file = g; follows = follows; meta = meta; snap = snap } in
    cond_both ((g == f) && is_before a follows) (later_of x best) best (IsLast f a (flush_record x ∷ rs))
    (λ is. let parts = and_parts (g == f) (is_before a follows) is in last_more f a x rs best (eqb-true g f parts.0, parts.1) i)
    (λ isnt. last_beside f a (flush_record x) rs best (λ y is of. other_file f a x y is of isnt) i)
last_with f a (bodies.Request tid op answer) rs best i =
    last_beside f a (record { body = bodies.Request tid op answer }) rs best (λ x is of. absurd (no_flush x is)) i
  where
    no_flush : (x : Flush) → bodies.Request tid op answer ≡ (flush_record x).body → ⊥
    no_flush x is = absurd cc
last_with f a (bodies.Snap number d name) rs best i =
    last_beside f a (record { body = bodies.Snap number d name }) rs best (λ x is of. absurd (no_flush x is)) i
  where
    no_flush : (x : Flush) → bodies.Snap number d name ≡ (flush_record x).body → ⊥
    no_flush x is = absurd cc
last_with f a (bodies.Removal t number) rs best i =
    last_beside f a (record { body = bodies.Removal t number }) rs best (λ x is of. absurd (no_flush x is)) i
  where
    no_flush : (x : Flush) → bodies.Removal t number ≡ (flush_record x).body → ⊥
    no_flush x is = absurd cc

pub last_is : (f : ℕ) (a : At) (rs : List Record) → IsLast f a rs (last_flush f a rs)
last_is f a [] = each_nil (λ r. IsOther f a r.body)
last_is f a (r ∷ rs) = last_with f a r.body rs (last_flush f a rs) (last_is f a rs)
