-- The places of the records in their list.
use Rattle.std.proofs.Common.{◌≡◌, ℕ, zero, suc, ◌+◌, ◌<◌, nat_lt, Bool, true, false, cond, ◌↔◌, Bor, List, [], ◌∷◌, ◌++◌, Option, Some, None, is_some, IsNone, length, map, set, position, refl, sym, ◌∙◌, ap, arith}
use Rattle.std.specs.List.{find, position_or_len, slice_get}
use Rattle.std.specs.Option.{option_copied, option_map}
use Rattle.std.specs.Slice.{IsGetResult}
use Rattle.std.proofs.lemmas.Bool.{ltb-false}
use Rattle.std.proofs.lemmas.List.Folds.{find_at}
use Rattle.std.proofs.lemmas.Option.{cond_some, slice_get-map, slice_get_past, slice_get_read}
use Rattle.cs_snapctx.specs.declared.realm.RealmRecord.{RealmRecord}
use Rattle.cs_snapctx.specs.Records.{is_known, is_of, with_record}

cond_none : {X : Type 0} (b : Bool) (x : X) → cond b (Some x) None ≡ None → b ≡ false
cond_none true x e = absurd cc
cond_none false x e = refl

-- what stands at the first place that passes
pub found : {X : Type 0} (p : X → Bool) (xs : List X) (n : ℕ) → position p xs ≡ Some n → find p xs ≡ slice_get xs n
found p xs n e =
    let parts = cond_some (nat_lt (position_or_len p xs) (length xs)) (position_or_len p xs) n e in
    find_at p xs ∙ ap (slice_get xs) parts.1

pub not_found : {X : Type 0} (p : X → Bool) (xs : List X) → position p xs ≡ None → find p xs ≡ None
not_found p xs e =
    let past = cond_none (nat_lt (position_or_len p xs) (length xs)) (position_or_len p xs) e in
    find_at p xs ∙ slice_get_past xs (position_or_len p xs) (ltb-false (position_or_len p xs) (length xs) past)

pub found_in : {X Y : Type 0} (f : X → Y) (p : X → Bool) (xs : List X) (n : ℕ) → position p xs ≡ Some n → slice_get (map f xs) n ≡ option_map f (find p xs)
found_in f p xs n e = slice_get-map f xs n ∙ ap (option_map f) (sym (found p xs n e))

there : {X : Type 0} (xs : List X) (n : ℕ) → n < length xs → is_some (slice_get xs n) ≡ true
there [] n l = absurd (omega arith)
there (x ∷ xs) zero l = refl
there (x ∷ xs) (suc n) l = there xs n (omega arith)

-- a realm that has a place is known
pub place_known : (i : ℕ) (xs : List RealmRecord) (n : ℕ) → position (is_of i) xs ≡ Some n → is_known i xs ≡ true
place_known i xs n e =
    let parts = cond_some (nat_lt (position_or_len (is_of i) xs) (length xs)) (position_or_len (is_of i) xs) n e in
    ap is_some (found (is_of i) xs n e) ∙ there xs n (grind (arith, parts.0, parts.1))

-- and one that has none isn't
pub no_place : (i : ℕ) (xs : List RealmRecord) → position (is_of i) xs ≡ None → is_known i xs ≡ false
no_place i xs e = ap is_some (not_found (is_of i) xs e)

first_of : (i : ℕ) (x : RealmRecord) (xs : List RealmRecord) (b : Bool) → is_of i x ≡ b → position_or_len (is_of i) (x ∷ xs) ≡ cond b 0 (1 + position_or_len (is_of i) xs)
first_of i x xs true e = rw e refl
first_of i x xs false e = rw e refl

placed_at : (n : ℕ) (r : RealmRecord) (xs : List RealmRecord) → position_or_len (is_of r.realm) xs ≡ n → n < length xs → set xs n r ≡ with_record r xs
placed_at n r [] e l = absurd (omega arith)
placed_at zero r (x ∷ xs) e l = at (is_of r.realm x) refl
  where
    at : (b : Bool) → is_of r.realm x ≡ b → r ∷ xs ≡ cond b (r ∷ xs) (x ∷ with_record r xs)
    at true s = refl
    at false s = absurd (omega (arith, first_of r.realm x xs false s, e))
placed_at (suc n) r (x ∷ xs) e l = at (is_of r.realm x) refl (λ m. placed_at n r xs m (omega arith))
  where
    at : (b : Bool) → is_of r.realm x ≡ b → (position_or_len (is_of r.realm) xs ≡ n → set xs n r ≡ with_record r xs)
        → x ∷ set xs n r ≡ cond b (r ∷ xs) (x ∷ with_record r xs)
    at true s rest = absurd (omega (arith, first_of r.realm x xs true s, e))
    at false s rest = ap (λ ys. x ∷ ys) (rest (omega (arith, first_of r.realm x xs false s, e)))

-- a record takes the place of the last one of its realm
pub placed : (r : RealmRecord) (xs : List RealmRecord) (n : ℕ) → position (is_of r.realm) xs ≡ Some n → set xs n r ≡ with_record r xs
placed r xs n e =
    let parts = cond_some (nat_lt (position_or_len (is_of r.realm) xs) (length xs)) (position_or_len (is_of r.realm) xs) n e in
    placed_at n r xs parts.1 (grind (arith, parts.0, parts.1))

appended_at : (r : RealmRecord) (xs : List RealmRecord) → find (is_of r.realm) xs ≡ None → xs ++ r ∷ [] ≡ with_record r xs
appended_at r [] e = refl
appended_at r (x ∷ xs) e = at (is_of r.realm x) e (appended_at r xs)
  where
    at : (b : Bool) → cond b (Some x) (find (is_of r.realm) xs) ≡ None → (find (is_of r.realm) xs ≡ None → xs ++ r ∷ [] ≡ with_record r xs)
        → x ∷ (xs ++ r ∷ []) ≡ cond b (r ∷ xs) (x ∷ with_record r xs)
    at true e rest = absurd cc
    at false e rest = ap (λ ys. x ∷ ys) (rest e)

-- or goes to the end
pub appended : (r : RealmRecord) (xs : List RealmRecord) → position (is_of r.realm) xs ≡ None → xs ++ r ∷ [] ≡ with_record r xs
appended r xs e = appended_at r xs (not_found (is_of r.realm) xs e)

-- what a look-up gives
pub looked_up : {X : Type 0} (xs : List X) (i : ℕ) (r : Option (Bor X)) → IsGetResult xs i i r → option_copied r ≡ slice_get xs i
looked_up xs i None h = sym (slice_get_past xs i h.3)
looked_up xs i (Some b) h = sym (slice_get_read xs (length xs) i b.now refl h.3.0 h.1)

-- there is none where none was kept
pub none_kept : {X Y : Type 0} (f : X → Y) (r : Option (Bor Y)) (o : Option X) → option_copied r ≡ option_map f o → IsNone r ↔ (is_some o ≡ false)
none_kept f None None e = (λ h. refl, λ h. refl)
none_kept f (Some b) None e = absurd cc
none_kept f None (Some x) e = absurd cc
none_kept f (Some b) (Some x) e = (λ h. absurd cc, λ h. absurd cc)
