-- One record of the log more gives the context along a way its number, or leaves it.
use Rattle.std.proofs.Common.{◌≡◌, ◌⊎◌, refl, sym, ap, ◌∙◌, ℕ, ◌<◌, ◌≤◌, ◌==◌, ◌||◌, not, Bool, true, false, cond, max, List, [], ◌∷◌, ◌++◌, filter, inl, inr, ⊎_elim, arith}
use Rattle.std.specs.List.{list_any}
use Rattle.std.proofs.lemmas.Bool.{cond_both, cond-true, cond-false, or_cases, or_left, or_right, true≢false}
use Rattle.std.proofs.lemmas.List.Folds.{list_any-append}
use Rattle.cs_snapctx.specs.Context.{Context, merged}
use Rattle.cs_laws.specs.declared.records.Record.{Record}
use Rattle.cs_laws.specs.declared.records.RecordBody.{RecordBody}
use Rattle.cs_laws.specs.declared.records.RecordBody.TheVariants as bodies
use Rattle.cs_laws.specs.Carried.{is_realm_change}
use Rattle.cs_laws.specs.Realms.{Own, has_snap, is_realm, is_snap_of, own, own_after, own_then, number_of, since_of}
use Rattle.cs_laws.specs.Standing.{greatest_number}
use Rattle.cs_laws.specs.Made.{made_of, makes_dir}
use Rattle.cs_theorems.proofs.RealmPaths.{way_context}
use Rattle.cs_theorems.proofs.Logs.{MakesNoRealm, since_end}

-- One directory

own_append : (d : ℕ) (o : Own) (rs : List Record) (r : Record) → own_after d o (rs ++ r ∷ []) ≡ own_then d (own_after d o rs) r.body
own_append d o [] r = refl
own_append d o (x ∷ rs) r = own_append d (own_then d o x.body) rs r

then_low : (d : ℕ) (o : Own) (b : RecordBody) → (own_then d o b).seq ≤ max o.seq (number_of b)
then_low d o (bodies.Request tid op answer) = omega arith
then_low d o (bodies.Flush snap f tid follows meta) = omega arith
then_low d o (bodies.Snap n e name) = cond_both (e == d) _ o (λ x. x.seq ≤ max o.seq n) (λ _. omega arith) (λ _. omega arith)
then_low d o (bodies.Removal s n) = cond_both (has_snap s o) _ o (λ x. x.seq ≤ max o.seq n) (λ _. omega arith) (λ _. omega arith)

after_low : (d : ℕ) (o : Own) (rs : List Record) → (own_after d o rs).seq ≤ max o.seq (greatest_number rs)
after_low d o [] = omega arith
after_low d o (r ∷ rs) = omega (arith, after_low d (own_then d o r.body) rs, then_low d o r.body)

pub own_low : (d : ℕ) (rs : List Record) → (own d rs).seq ≤ greatest_number rs
own_low d rs = omega (arith, after_low d (record { seq = 0; snaps = [] }) rs)

-- only a directory of which a snapshot was taken has one
filter_any : (s t : ℕ) (xs : List ℕ) → list_any (λ x. x == s) (filter (λ x. not (x == t)) xs) ≡ true → list_any (λ x. x == s) xs ≡ true
filter_any s t [] is = is
filter_any s t (x ∷ xs) is =
    cond_both (not (x == t)) (x ∷ filter (λ y. not (y == t)) xs) (filter (λ y. not (y == t)) xs)
    (λ ys. list_any (λ y. y == s) ys ≡ true → list_any (λ y. y == s) (x ∷ xs) ≡ true)
    (λ _ there. ⊎_elim (λ here. or_left (x == s) _ here) (λ more. or_right (x == s) _ (filter_any s t xs more)) (or_cases (x == s) _ there))
    (λ _ there. or_right (x == s) _ (filter_any s t xs there))
    is

then_has : (d s : ℕ) (o : Own) (b : RecordBody) → has_snap s (own_then d o b) ≡ true → (has_snap s o ≡ true) ⊎ (is_snap_of d b ≡ true)
then_has d s o (bodies.Request tid op answer) is = inl is
then_has d s o (bodies.Flush snap f tid follows meta) is = inl is
then_has d s o (bodies.Snap n e name) is =
    cond_both (e == d) _ o (λ x. has_snap s x ≡ true → (has_snap s o ≡ true) ⊎ ((e == d) ≡ true)) (λ same _. inr same) (λ _ there. inl there) is
then_has d s o (bodies.Removal t n) is =
    cond_both (has_snap t o) _ o (λ x. has_snap s x ≡ true → (has_snap s o ≡ true) ⊎ (false ≡ true)) (λ _ there. inl (filter_any s t o.snaps there)) (λ _ there. inl there) is

after_has : (d s : ℕ) (o : Own) (rs : List Record) → has_snap s (own_after d o rs) ≡ true → (has_snap s o ≡ true) ⊎ (list_any (λ r. is_snap_of d r.body) rs ≡ true)
after_has d s o [] is = inl is
after_has d s o (r ∷ rs) is =
    ⊎_elim
    (λ there. ⊎_elim (λ before. inl before) (λ here. inr (or_left (is_snap_of d r.body) _ here)) (then_has d s o r.body there))
    (λ later. inr (or_right (is_snap_of d r.body) _ later))
    (after_has d s (own_then d o r.body) rs is)

pub has_realm : (d s : ℕ) (rs : List Record) → has_snap s (own d rs) ≡ true → is_realm rs d ≡ true
has_realm d s rs is =
    or_right (d == 1) _ (⊎_elim (λ none. absurd (true≢false (sym none))) (λ there. there) (after_has d s (record { seq = 0; snaps = [] }) rs is))

realm_append : (d : ℕ) (rs : List Record) (r : Record) → is_realm (rs ++ r ∷ []) d ≡ ((d == 1) || (list_any (λ x. is_snap_of d x.body) rs || (is_snap_of d r.body || false)))
realm_append d rs r = ap (λ b. (d == 1) || b) (list_any-append (λ x. is_snap_of d x.body) rs (r ∷ []))

or_none : (b : Bool) → (b || false) ≡ b
or_none true = refl
or_none false = refl

realm_stays : (d : ℕ) (rs : List Record) (r : Record) → is_snap_of d r.body ≡ false → is_realm (rs ++ r ∷ []) d ≡ is_realm rs d
realm_stays d rs r none =
    realm_append d rs r
    ∙ (ap (λ b. (d == 1) || (list_any (λ x. is_snap_of d x.body) rs || (b || false))) none ∙ ap (λ b. (d == 1) || b) (or_none (list_any (λ x. is_snap_of d x.body) rs)))

-- a realm stays one
pub realm_more : (d : ℕ) (rs : List Record) (r : Record) → is_realm rs d ≡ true → is_realm (rs ++ r ∷ []) d ≡ true
realm_more d rs r is =
    realm_append d rs r
    ∙ ⊎_elim (λ root. or_left (d == 1) _ root) (λ there. or_right (d == 1) _ (or_left (list_any (λ x. is_snap_of d x.body) rs) _ there)) (or_cases (d == 1) _ is)

-- what a record does to a directory: nothing, or it gives its number
abbrev pub Stays : ℕ → List Record → Record → Type 0
Stays d rs r =
    (own d (rs ++ r ∷ []) ≡ own d rs) × (is_realm (rs ++ r ∷ []) d ≡ is_realm rs d) × (is_realm rs d ≡ true → since_of (rs ++ r ∷ []) d ≡ since_of rs d)

abbrev pub Grows : ℕ → List Record → Record → Type 0
Grows d rs r = ((own d (rs ++ r ∷ [])).seq ≡ number_of r.body) × (is_realm (rs ++ r ∷ []) d ≡ true)

-- a record that changes no realm does nothing
pub quiet_stays : (d : ℕ) (rs : List Record) (b : RecordBody) → is_realm_change b ≡ false → (is_realm rs d ≡ true → makes_dir d (made_of b) ≡ false)
    → Stays d rs (record { body = b })
quiet_stays d rs (bodies.Request tid op answer) quiet none =
    let r : Record = record { body = bodies.Request tid op answer } in
    (own_append d (record { seq = 0; snaps = [] }) rs r, realm_stays d rs r refl, λ is. since_end d 0 rs r (none is))
quiet_stays d rs (bodies.Flush snap f tid follows meta) quiet none =
    let r : Record = record { body = bodies.Flush snap f tid follows meta } in
    (own_append d (record { seq = 0; snaps = [] }) rs r, realm_stays d rs r refl, λ is. since_end d 0 rs r refl)
quiet_stays d rs (bodies.Snap n e name) quiet none = absurd (true≢false quiet)
quiet_stays d rs (bodies.Removal s n) quiet none = absurd (true≢false quiet)

pub grown : (d : ℕ) (rs : List Record) (b : RecordBody) → (is_realm rs d ≡ true → makes_dir d (made_of b) ≡ false)
    → Stays d rs (record { body = b }) ⊎ Grows d rs (record { body = b })
grown d rs (bodies.Request tid op answer) none = inl (quiet_stays d rs (bodies.Request tid op answer) refl none)
grown d rs (bodies.Flush snap f tid follows meta) none = inl (quiet_stays d rs (bodies.Flush snap f tid follows meta) refl none)
grown d rs (bodies.Snap n e name) none = at (e == d) refl
  where
    r : Record
    r = record { body = bodies.Snap n e name }

    at : (b : Bool) → (e == d) ≡ b → Stays d rs r ⊎ Grows d rs r
    at true same = inr (
      ap (λ (o : Own). o.seq) (own_append d (record { seq = 0; snaps = [] }) rs r ∙ cond-true (e == d) _ _ same),
      realm_append d rs r ∙ or_right (d == 1) _ (or_right (list_any (λ x. is_snap_of d x.body) rs) _ (or_left (e == d) false same)),
    )
    at false other =
        inl (own_append d (record { seq = 0; snaps = [] }) rs r ∙ cond-false (e == d) _ _ other, realm_stays d rs r other, λ is. since_end d 0 rs r refl)
grown d rs (bodies.Removal s n) none_made = at (has_snap s (own d rs)) refl
  where
    r : Record
    r = record { body = bodies.Removal s n }

    at : (b : Bool) → has_snap s (own d rs) ≡ b → Stays d rs r ⊎ Grows d rs r
    at true there = inr (
      ap (λ (o : Own). o.seq) (own_append d (record { seq = 0; snaps = [] }) rs r ∙ cond-true (has_snap s (own d rs)) _ _ there),
      realm_stays d rs r refl ∙ has_realm d s rs there,
    )
    at false none = inl (
      own_append d (record { seq = 0; snaps = [] }) rs r ∙ cond-false (has_snap s (own d rs)) _ _ none,
      realm_stays d rs r refl,
      λ is. since_end d 0 rs r refl,
    )

-- A way

abbrev pub step_context : List Record → ℕ → Context → Context
step_context rs d c = cond (is_realm rs d) (merged (own d rs).snaps [] (own d rs).seq c (since_of rs d)) c

pub way_low : (rs : List Record) (ds : List ℕ) → (way_context rs ds).seq ≤ greatest_number rs
way_low rs [] = omega arith
way_low rs (d ∷ ds) =
    cond_both (is_realm rs d) (merged (own d rs).snaps [] (own d rs).seq (way_context rs ds) (since_of rs d)) (way_context rs ds)
    (λ c. c.seq ≤ greatest_number rs)
    (λ _. omega (arith, own_low d rs, way_low rs ds)) (λ _. way_low rs ds)

pub greatest_more : (rs : List Record) (r : Record) → greatest_number (rs ++ r ∷ []) ≡ max (greatest_number rs) (number_of r.body)
greatest_more [] r = omega arith
greatest_more (x ∷ rs) r = omega (arith, greatest_more rs r)

pub same_step : (rs : List Record) (r : Record) (d : ℕ) (c : Context) → Stays d rs r → step_context (rs ++ r ∷ []) d c ≡ step_context rs d c
same_step rs r d c (same, realm, since) =
    ap (λ b. cond b (merged (own d (rs ++ r ∷ [])).snaps [] (own d (rs ++ r ∷ [])).seq c (since_of (rs ++ r ∷ []) d)) c) realm
    ∙ (ap (λ (o : Own). cond (is_realm rs d) (merged o.snaps [] o.seq c (since_of (rs ++ r ∷ []) d)) c) same ∙ at (is_realm rs d) refl)
  where
    at : (b : Bool) → is_realm rs d ≡ b
        → cond b (merged (own d rs).snaps [] (own d rs).seq c (since_of (rs ++ r ∷ []) d)) c
        ≡ cond b (merged (own d rs).snaps [] (own d rs).seq c (since_of rs d)) c
    at true is = ap (λ n. merged (own d rs).snaps [] (own d rs).seq c n) (since is)
    at false not = refl

pub way_stays : (rs : List Record) (r : Record) (ds : List ℕ) → ((d : ℕ) → Stays d rs r) → way_context (rs ++ r ∷ []) ds ≡ way_context rs ds
way_stays rs r [] same = refl
way_stays rs r (d ∷ ds) same = same_step rs r d (way_context (rs ++ r ∷ []) ds) (same d) ∙ ap (step_context rs d) (way_stays rs r ds same)

-- the record's number is above all before
pub way_grows : (rs : List Record) (r : Record) (ds : List ℕ) → greatest_number rs < number_of r.body → MakesNoRealm rs r.body
    → (way_context (rs ++ r ∷ []) ds ≡ way_context rs ds) ⊎ ((way_context (rs ++ r ∷ []) ds).seq ≡ number_of r.body)
way_grows rs r [] up none = inl refl
way_grows rs r (d ∷ ds) up none = at (grown d rs r.body (none d)) (way_grows rs r ds up none)
  where
    now : Context
    now = way_context (rs ++ r ∷ []) ds

    low : now.seq ≤ number_of r.body
    low = omega (arith, way_low (rs ++ r ∷ []) ds, greatest_more rs r)

    at : Stays d rs r ⊎ Grows d rs r → (now ≡ way_context rs ds) ⊎ (now.seq ≡ number_of r.body)
        → (step_context (rs ++ r ∷ []) d now ≡ step_context rs d (way_context rs ds)) ⊎ ((step_context (rs ++ r ∷ []) d now).seq ≡ number_of r.body)
    at (inl same) (inl rest) = inl (same_step rs r d now same ∙ ap (step_context rs d) rest)
    at (inl same) (inr rest) =
        inr (ap (λ (c : Context). c.seq) (same_step rs r d now same)
        ∙ cond_both (is_realm rs d) (merged (own d rs).snaps [] (own d rs).seq now (since_of rs d)) now (λ c. c.seq ≡ number_of r.body)
        (λ _. omega (arith, own_low d rs, rest)) (λ _. rest))
    at (inr (seq, realm)) rest =
        inr (ap (λ (c : Context). c.seq) (cond-true (is_realm (rs ++ r ∷ []) d) (merged (own d (rs ++ r ∷ [])).snaps [] (own d (rs ++ r ∷ [])).seq now (since_of (rs ++ r ∷ []) d)) now realm)
        ∙ omega (arith, seq, low))
