-- The table's entries against the list of the open requests.
use Rattle.std.proofs.Common.{◌≡◌, ℕ, ◌<◌, ◌≤◌, ◌==◌, ◌||◌, not, Bool, true, false, cond, List, [], ◌∷◌, ◌++◌, Option, Some, None, is_some, map, refl, sym, ap, subst, ◌∙◌, true≢false, arith}
use Rattle.std.proofs.lemmas.Bool.{eqb-true}
use Rattle.std.proofs.lemmas.List.{map-append}
use Rattle.std.specs.List.{AllByRecursion}
use Rattle.std.specs.Map.{lookup, remove_entry, set_value, values_of}
use Rattle.std.specs.Borrow.{Bor}
use Rattle.std.specs.Option.{option_and_then, option_copied}
use Rattle.indexmap.specs.IndexMap.{IndexMap, insert_entry}
use Rattle.indexmap.proofs.CallerLemmas.{insert_entry-new}
use Rattle.cs_laws.specs.declared.requests.OpAnswer.{OpAnswer}
use Rattle.cs_requests.specs.declared.requests.OpenReq.{OpenReq}
use Rattle.cs_requests.specs.Entries.{AreEntries, IsEntry}
use Rattle.cs_requests.specs.Requests.{Ascend, answered, is_open, is_told, open_at, resent, without}

same_number : (a b : ℕ) → (a == b) ≡ (b == a)
same_number a b = grind arith

module _ (sent t : ℕ) where
  -- the key's own test
  test-number : (e : ℕ × OpenReq) → IsEntry sent e → (t == e.0) ≡ (e.1.tid == t)
  test-number e i = ap (λ k. t == k) i.number ∙ same_number t e.1.tid

  pub lookup-open : (es : List (ℕ × OpenReq)) → AllByRecursion (IsEntry sent) es → lookup (λ k. t == k) es ≡ open_at t (values_of es)
  lookup-open [] all = refl
  lookup-open (e ∷ es) all = λ j. cond (test-number e all.0 j) (Some e.1) (lookup-open es all.1 j)

pub is_open-found : (t : ℕ) (rs : List OpenReq) → is_some (open_at t rs) ≡ is_open t rs
is_open-found t [] = refl
is_open-found t (r ∷ rs) = by (r.tid == t) (is_open-found t rs)
  where
    by : (b : Bool) → is_some (open_at t rs) ≡ is_open t rs → is_some (cond b (Some r) (open_at t rs)) ≡ (b || is_open t rs)
    by true rest = refl
    by false rest = rest

pub is_open-lookup : (sent t : ℕ) (es : List (ℕ × OpenReq)) → AllByRecursion (IsEntry sent) es
    → is_open t (values_of es) ≡ is_some (lookup (λ k. t == k) es)
is_open-lookup sent t es all = sym (ap is_some (lookup-open sent t es all) ∙ is_open-found t (values_of es))

-- whether the request that is found was told its answer
pub is_told-lookup : (sent t : ℕ) (es : List (ℕ × OpenReq)) → AllByRecursion (IsEntry sent) es
    → is_told t (values_of es) ≡ is_some (option_and_then (λ r. r.answer) (lookup (λ k. t == k) es))
is_told-lookup sent t es all = ap (λ o. is_some (option_and_then (λ r. r.answer) o)) (sym (lookup-open sent t es all))

pub is_some-copied : (o : Option (Bor OpenReq)) → is_some (option_copied o) ≡ is_some o
is_some-copied None = refl
is_some-copied (Some r) = refl

-- Numbers that ascend

ascend-less : (m n : ℕ) (rs : List OpenReq) → m ≤ n → Ascend n rs → Ascend m rs
ascend-less m n [] l up = tt
ascend-less m n (r ∷ rs) l up = (omega (arith, up.0), up.1)

pub ascend-without : (t n : ℕ) (rs : List OpenReq) → Ascend n rs → Ascend n (without t rs)
ascend-without t n [] up = tt
ascend-without t n (r ∷ rs) up = by (r.tid == t) (ascend-without t r.tid rs up.1)
  where
    by : (b : Bool) → Ascend r.tid (without t rs) → Ascend n (cond (not b) (r ∷ without t rs) (without t rs))
    by true rest = ascend-less n r.tid (without t rs) (omega (arith, up.0)) rest
    by false rest = (up.0, rest)

ascend-map : (f : OpenReq → OpenReq) → ((r : OpenReq) → (f r).tid ≡ r.tid) → (n : ℕ) (rs : List OpenReq) → Ascend n rs
    → Ascend n (map f rs)
ascend-map f same n [] up = tt
ascend-map f same n (r ∷ rs) up = (rw (same r) up.0, subst (λ k. Ascend k (map f rs)) (sym (same r)) (ascend-map f same r.tid rs up.1))

ascend-more : (sent n : ℕ) (es : List (ℕ × OpenReq)) (r : OpenReq) → AllByRecursion (IsEntry sent) es → Ascend n (values_of es)
    → n ≤ sent → sent < r.tid → Ascend n (values_of es ++ r ∷ [])
ascend-more sent n [] r all up l above = (omega arith, tt)
ascend-more sent n (e ∷ es) r all up l above = (
  up.0,
  ascend-more sent e.1.tid es r all.1 up.1 (omega
      (arith, all.0.number, all.0.drawn)) above,
)

-- no request behind a greater number has this one
none_behind : (t n : ℕ) (rs : List OpenReq) → Ascend n rs → t ≤ n → is_open t rs ≡ false
none_behind t n [] up l = refl
none_behind t n (r ∷ rs) up l =
    let other : (r.tid == t) ≡ false = grind (arith, up.0) in
    ap (λ b. b || is_open t rs) other ∙ none_behind t r.tid rs up.1 (omega (arith, up.0))

-- A request less

without-none : (t : ℕ) (rs : List OpenReq) → is_open t rs ≡ false → without t rs ≡ rs
without-none t [] none = refl
without-none t (r ∷ rs) none = by (r.tid == t) none (without-none t rs)
  where
    by : (b : Bool) → (b || is_open t rs) ≡ false → (is_open t rs ≡ false → without t rs ≡ rs)
        → cond (not b) (r ∷ without t rs) (without t rs) ≡ r ∷ rs
    by true none rest = absurd (true≢false none)
    by false none rest = λ j. r ∷ rest none j

pub values-without : (sent t n : ℕ) (es : List (ℕ × OpenReq)) → AllByRecursion (IsEntry sent) es → Ascend n (values_of es)
    → values_of (remove_entry (λ k. t == k) es) ≡ without t (values_of es)
values-without sent t n [] all up = refl
values-without sent t n (e ∷ es) all up =
    by (e.1.tid == t) refl (values-without sent t e.1.tid es all.1 up.1)
  where
    by : (b : Bool) → (e.1.tid == t) ≡ b → values_of (remove_entry (λ k. t == k) es) ≡ without t (values_of es)
        → values_of (remove_entry (λ k. t == k) (e ∷ es)) ≡ without t (values_of (e ∷ es))
    by true is same =
        let here = test-number sent t e all.0 ∙ is in
        let gone = without-none t (values_of es) (none_behind t e.1.tid (values_of es) up.1 (omega (arith, eqb-true e.1.tid t is))) in
        (λ j. values_of (cond (here j) es (e ∷ remove_entry (λ k. t == k) es))) ∙ sym gone
        ∙ (λ j. cond (not (sym is j)) (e.1 ∷ without t (values_of es)) (without t (values_of es)))
    by false is same =
        let here = test-number sent t e all.0 ∙ is in
        (λ j. values_of (cond (here j) es (e ∷ remove_entry (λ k. t == k) es))) ∙ (λ j. e.1 ∷ same j)
        ∙ (λ j. cond (not (sym is j)) (e.1 ∷ without t (values_of es)) (without t (values_of es)))

each-cond : (sent : ℕ) (b : Bool) (xs ys : List (ℕ × OpenReq)) → AllByRecursion (IsEntry sent) xs → AllByRecursion (IsEntry sent) ys
    → AllByRecursion (IsEntry sent) (cond b xs ys)
each-cond sent true xs ys p q = p
each-cond sent false xs ys p q = q

pub each-without : (sent : ℕ) (test : ℕ → Bool) (es : List (ℕ × OpenReq)) → AllByRecursion (IsEntry sent) es
    → AllByRecursion (IsEntry sent) (remove_entry test es)
each-without sent test [] all = tt
each-without sent test (e ∷ es) all = each-cond sent (test e.0) es (e ∷ remove_entry test es) all.1
    (all.0, each-without sent test es all.1)

-- An answer

tid-answered : (t : ℕ) (a : OpAnswer) (r : OpenReq) → (answered t a r).tid ≡ r.tid
tid-answered t a r = by (r.tid == t)
  where
    by : (b : Bool) → (cond b (record r { answer = Some a }) r).tid ≡ r.tid
    by true = refl
    by false = refl

pub ascend-answered : (t : ℕ) (a : OpAnswer) (n : ℕ) (rs : List OpenReq) → Ascend n rs → Ascend n (map (answered t a) rs)
ascend-answered t a n rs up = ascend-map (answered t a) (tid-answered t a) n rs up

pub answered-none : (t : ℕ) (a : OpAnswer) (rs : List OpenReq) → is_open t rs ≡ false → map (answered t a) rs ≡ rs
answered-none t a [] none = refl
answered-none t a (r ∷ rs) none = by (r.tid == t) none (answered-none t a rs)
  where
    by : (b : Bool) → (b || is_open t rs) ≡ false → (is_open t rs ≡ false → map (answered t a) rs ≡ rs)
        → cond b (record r { answer = Some a }) r ∷ map (answered t a) rs ≡ r ∷ rs
    by true none rest = absurd (true≢false none)
    by false none rest = λ j. r ∷ rest none j

-- the table with an answer written to the request that is found
pub values-answered : (sent t n : ℕ) (a : OpAnswer) (r : OpenReq) (es : List (ℕ × OpenReq)) → AllByRecursion (IsEntry sent) es
    → Ascend n (values_of es) → lookup (λ k. t == k) es ≡ Some r
    → values_of (set_value (λ k. t == k) es (record r { answer = Some a })) ≡ map (answered t a) (values_of es)
values-answered sent t n a r [] all up found = refl
values-answered sent t n a r (e ∷ es) all up found = by (e.1.tid == t) refl (values-answered sent t e.1.tid a r es all.1 up.1)
  where
    by : (b : Bool) → (e.1.tid == t) ≡ b
        → (lookup (λ k. t == k) es ≡ Some r → values_of (set_value (λ k. t == k) es (record r { answer = Some a }))
        ≡ map (answered t a) (values_of es))
        → values_of (set_value (λ k. t == k) (e ∷ es) (record r { answer = Some a })) ≡ map (answered t a) (values_of (e ∷ es))
    by true is same =
        let here = test-number sent t e all.0 ∙ is in
        let it : e.1 ≡ r = let some : Some e.1 ≡ Some r = (λ j. cond (sym here j) (Some e.1) (lookup (λ k. t == k) es)) ∙ found in cc in
        let others = answered-none t a (values_of es) (none_behind t e.1.tid (values_of es) up.1 (omega
        (arith, eqb-true e.1.tid t is))) in
        (λ j. values_of (cond (here j) ((e.0, record (sym it j) { answer = Some a }) ∷ es) (e ∷ set_value (λ k. t == k) es (record
        (sym it j) { answer = Some a }))))
        ∙ (λ j. record e.1 { answer = Some a } ∷ sym others j)
        ∙ (λ j. cond (sym is j) (record e.1 { answer = Some a }) e.1 ∷ map (answered t a) (values_of es))
    by false is same =
        let here = test-number sent t e all.0 ∙ is in
        let there = (λ j. cond (sym here j) (Some e.1) (lookup (λ k. t == k) es)) ∙ found in
        (λ j. values_of (cond (here j) ((e.0, record r { answer = Some a }) ∷ es) (e ∷ set_value (λ k. t == k) es
        (record r { answer = Some a }))))
        ∙ (λ j. e.1 ∷ same there j) ∙ (λ j. cond (sym is j) (record e.1 { answer = Some a }) e.1 ∷ map (answered t a) (values_of es))

pub each-answered : (sent t : ℕ) (a : OpAnswer) (r : OpenReq) (es : List (ℕ × OpenReq)) → AllByRecursion (IsEntry sent) es
    → lookup (λ k. t == k) es ≡ Some r
    → AllByRecursion (IsEntry sent) (set_value (λ k. t == k) es (record r { answer = Some a }))
each-answered sent t a r [] all found = tt
each-answered sent t a r (e ∷ es) all found = by (t == e.0) refl (each-answered sent t a r es all.1)
  where
    by : (b : Bool) → (t == e.0) ≡ b → (lookup (λ k. t == k) es ≡ Some r
        → AllByRecursion (IsEntry sent) (set_value (λ k. t == k) es (record r { answer = Some a })))
        → AllByRecursion (IsEntry sent) (cond b ((e.0, record r { answer = Some a }) ∷ es) (e ∷ set_value (λ k. t == k) es
        (record r { answer = Some a })))
    by true is rest =
        let it : e.1 ≡ r = let some : Some e.1 ≡ Some r = (λ j. cond (sym is j) (Some e.1) (lookup (λ k. t == k) es)) ∙ found in cc in
        (record { number = all.0.number ∙ ap (λ x. x.tid) it; drawn = all.0.drawn }, all.1)
    by false is rest = (all.0, rest ((λ j. cond (sym is j) (Some e.1) (lookup (λ k. t == k) es)) ∙ found))

-- A request more

each-more : (sent t : ℕ) (r : OpenReq) (es : List (ℕ × OpenReq)) → AllByRecursion (IsEntry sent) es → r.tid ≡ t → sent ≤ t
    → AllByRecursion (IsEntry t) (es ++ (t, r) ∷ [])
each-more sent t r [] all is l = (record { number = sym is; drawn = omega arith }, tt)
each-more sent t r (e ∷ es) all is l = (
  record {
    number = all.0.number;
    drawn = omega
        (arith, all.0.drawn);
  },
  each-more sent t r es all.1 is l,
)

lookup-new : (sent t : ℕ) (es : List (ℕ × OpenReq)) → AllByRecursion (IsEntry sent) es → sent < t → lookup (λ k. t == k) es ≡ None
lookup-new sent t [] all above = refl
lookup-new sent t (e ∷ es) all above =
    let other : (t == e.0) ≡ false = grind (arith, all.0.drawn) in
    (λ j. cond (other j) (Some e.1) (lookup (λ k. t == k) es)) ∙ lookup-new sent t es all.1 above

pub insert_entry-sent : {S : Type 0} (sent : ℕ) (m : IndexMap ℕ OpenReq S) (t : ℕ) (r : OpenReq)
    → AllByRecursion (IsEntry sent) m.entries → sent < t
    → insert_entry (λ a b. a == b) m.entries t r ≡ m.entries ++ (t, r) ∷ []
insert_entry-sent sent m t r all above = insert_entry-new (λ a b. a == b) m t r (lookup-new sent t m.entries all above)

-- what is there after a request more
pub entries-sent : (sent t : ℕ) (r : OpenReq) (es : List (ℕ × OpenReq)) → AreEntries sent es → r.tid ≡ t → sent < t
    → AreEntries t (es ++ (t, r) ∷ [])
entries-sent sent t r es a is above = record {
  each = each-more sent t r es a.each is (omega arith);
  order = subst (Ascend 0) (sym (map-append (λ (e : ℕ × OpenReq). e.1) es ((t, r) ∷ []))) (ascend-more sent 0 es r a.each a.order
      (omega arith) (omega arith));
}

-- All sent again

pub values-resent : (es : List (ℕ × OpenReq)) → values_of (map (λ e. (e.0, resent e.1)) es) ≡ map resent (values_of es)
values-resent [] = refl
values-resent (e ∷ es) = λ j. resent e.1 ∷ values-resent es j

pub each-resent : (sent : ℕ) (es : List (ℕ × OpenReq)) → AllByRecursion (IsEntry sent) es
    → AllByRecursion (IsEntry sent) (map (λ e. (e.0, resent e.1)) es)
each-resent sent [] all = tt
each-resent sent (e ∷ es) all = (record { number = all.0.number; drawn = all.0.drawn }, each-resent sent es all.1)

pub ascend-resent : (n : ℕ) (rs : List OpenReq) → Ascend n rs → Ascend n (map resent rs)
ascend-resent n rs up = ascend-map resent (λ r. refl) n rs up
