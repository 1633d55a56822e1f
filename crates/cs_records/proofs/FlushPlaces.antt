-- The numbers of a file's flushes, and the places of their records.
use Rattle.std.proofs.Common.{◌≡◌, refl, sym, ap, ◌∙◌, ℕ, zero, suc, ◌+◌, ◌-◌, ◌<◌, ◌≤◌, ◌||◌, ◌&&◌, ◌==◌, Bool, true, false, cond, List, [], ◌∷◌, ◌++◌, Option, Some, None, length, take, max, nat_lt, get_or, Ok, Err, arith, ⊎_elim, slice_get}
use Rattle.std.specs.List.{All}
use Rattle.std.specs.Option.{option_map_or}
use Rattle.std.specs.List.Sorted.{IsBinarySearchResult, IsNonDecreasingBy}
use Rattle.std.specs.Ordering.{nat_cmp, ordering_index}
use Rattle.std.proofs.lemmas.Bool.{cases_lt, eq-eqb, le-ltb, lt-ltb, ne_eqb}
use Rattle.std.proofs.lemmas.Bool.Decides.{nat_tests}
use Rattle.std.proofs.lemmas.Cmp.{ranked}
use Rattle.std.proofs.lemmas.List.Elements.{All-cons, All-nil}
use Rattle.std.proofs.lemmas.List.Kept.{AllPairs-cons}
use Rattle.std.proofs.Math.Nat.{eq-or-lt_of_le}
use Rattle.cs_laws.specs.declared.records.Record.{Record}
use Rattle.cs_laws.specs.Carried.{flush_in}
use Rattle.cs_laws.specs.Flushes.{Flush}
use Rattle.cs_laws.specs.Standing.{greatest_tid, has_flush, is_flush, tid_if}
use Rattle.cs_records.specs.Places.{ArePlaced, greatest_in, place_in, places_from, with_place}

-- One more record

placed_end : (f n m : ℕ) (o : Option Flush) (xs ys : List (ℕ × ℕ)) → with_place f n o (xs ++ ys) ≡ with_place f n o xs ++ ys
placed_end f n m None xs ys = refl
placed_end f n m (Some x) xs ys = at (x.file == f)
  where
    at : (b : Bool) → cond b ((x.tid, n) ∷ (xs ++ ys)) (xs ++ ys) ≡ cond b ((x.tid, n) ∷ xs) xs ++ ys
    at true = refl
    at false = refl

pub places_append : (f n : ℕ) (rs : List Record) (r : Record)
    → places_from f n (rs ++ r ∷ []) ≡ places_from f n rs ++ with_place f (n + length rs) (flush_in r.body) []
places_append f n [] r = ap (λ k. with_place f k (flush_in r.body) []) (omega arith)
places_append f n (x ∷ rs) r =
    ap (λ ys. with_place f n (flush_in x.body) ys) (places_append f (n + 1) rs r
    ∙ ap (λ k. places_from f (n + 1) rs ++ with_place f k (flush_in r.body) []) (omega arith))
    ∙ placed_end f n n (flush_in x.body) (places_from f (n + 1) rs) (with_place f (n + length (x ∷ rs)) (flush_in r.body) [])

-- The greatest number

greatest_with : (f n : ℕ) (o : Option Flush) (xs : List (ℕ × ℕ)) → greatest_in (with_place f n o xs) ≡ max (tid_if f o) (greatest_in xs)
greatest_with f n None xs = omega arith
greatest_with f n (Some x) xs = at (x.file == f)
  where
    at : (b : Bool) → greatest_in (cond b ((x.tid, n) ∷ xs) xs) ≡ max (cond b x.tid 0) (greatest_in xs)
    at true = refl
    at false = omega arith

pub greatest_places : (f n : ℕ) (rs : List Record) → greatest_in (places_from f n rs) ≡ greatest_tid f rs
greatest_places f n [] = refl
greatest_places f n (r ∷ rs) =
    greatest_with f n (flush_in r.body) (places_from f (n + 1) rs) ∙ ap (λ k. max (tid_if f (flush_in r.body)) k) (greatest_places f (n + 1) rs)

-- the last one is the greatest
pub greatest_last : (xs : List (ℕ × ℕ)) (y : ℕ × ℕ) → ArePlaced xs → slice_get xs (length xs - 1) ≡ Some y → y.0 ≡ greatest_in xs
greatest_last [] y rising there = cc there
greatest_last (x ∷ []) y rising there = let same : x ≡ y = cc there in omega (arith, ap (λ (z : ℕ × ℕ). z.0) same)
greatest_last (x ∷ z ∷ xs) y rising there =
    let less : length (x ∷ z ∷ xs) - 1 ≡ suc (length (z ∷ xs) - 1) = omega arith in
    let rest = greatest_last (z ∷ xs) y (λ i j d low within. rising (suc i) (suc j) d (omega arith) (omega arith)) (rw less at there) in
    let first = rising 0 1 z (omega arith) (omega arith) in
    omega (arith, rest, first)

pub greatest_none : (xs : List (ℕ × ℕ)) → slice_get xs (length xs - 1) ≡ None → 0 ≡ greatest_in xs
greatest_none [] e = refl
greatest_none (x ∷ []) e = cc e
greatest_none (x ∷ z ∷ xs) e =
    let less : length (x ∷ z ∷ xs) - 1 ≡ suc (length (z ∷ xs) - 1) = omega arith in absurd (filled (z ∷ xs) (omega arith) (rw less at e))
  where
    filled : (ys : List (ℕ × ℕ)) → 0 < length ys → slice_get ys (length ys - 1) ≡ None → ⊥
    filled [] some e = omega arith
    filled (y ∷ []) some e = cc e
    filled (y ∷ w ∷ ys) some e = let less : length (y ∷ w ∷ ys) - 1 ≡ suc (length (w ∷ ys) - 1) = omega arith in filled (w ∷ ys) (omega arith) (rw less at e)

below_greatest : (xs : List (ℕ × ℕ)) (k : ℕ) (d : ℕ × ℕ) → k < length xs → (get_or xs k d).0 ≤ greatest_in xs
below_greatest [] k d within = absurd (omega arith)
below_greatest (x ∷ xs) zero d within = omega arith
below_greatest (x ∷ xs) (suc k) d within = omega (arith, below_greatest xs k d (omega arith))

all_more : (n : ℕ) (xs : List (ℕ × ℕ)) (y : ℕ × ℕ) → ((k : ℕ) (d : ℕ × ℕ) → k < length xs → n < (get_or xs k d).0) → n < y.0 → All (λ z. n < z.0) (xs ++ y ∷ [])
all_more n [] y each more = All-cons (λ z. n < z.0) y [] more (All-nil (λ z. n < z.0))
all_more n (x ∷ xs) y each more =
    All-cons (λ z. n < z.0) x (xs ++ y ∷ []) (each 0 x (omega arith)) (all_more n xs y (λ k d within. each (suc k) d (omega arith)) more)

-- a greater one goes to the end
pub placed_more : (xs : List (ℕ × ℕ)) (y : ℕ × ℕ) → ArePlaced xs → greatest_in xs < y.0 → ArePlaced (xs ++ y ∷ [])
placed_more [] y rising more = λ i j d low within. absurd (omega arith)
placed_more (x ∷ xs) y rising more =
    AllPairs-cons (λ x y. x.0 < y.0) x (xs ++ y ∷ []) (all_more x.0 xs y (λ k d within. rising 0 (suc k) d (omega arith) (omega arith)) (omega (arith, more)))
    (placed_more xs y (λ i j d low within. rising (suc i) (suc j) d (omega arith) (omega arith)) (omega (arith, more)))

-- The place of a number

pub place_found : (tid : ℕ) (xs : List (ℕ × ℕ)) (k : ℕ) (d : ℕ × ℕ) → ArePlaced xs → k < length xs → (get_or xs k d).0 ≡ tid
    → Some (get_or xs k d).1 ≡ place_in tid xs
place_found tid [] k d rising within same = absurd (omega arith)
place_found tid (x ∷ xs) zero d rising within same = ap (λ b. cond b (Some x.1) (place_in tid xs)) (sym (eq-eqb x.0 tid same))
place_found tid (x ∷ xs) (suc k) d rising within same =
    let less = rising 0 (suc k) d (omega arith) within in
    place_found tid xs k d (λ i j e low inside. rising (suc i) (suc j) e (omega arith) (omega arith)) (omega arith) same
    ∙ ap (λ b. cond b (Some x.1) (place_in tid xs)) (sym (ne_eqb x.0 tid (λ equal. omega arith)))

pub place_missing : (tid : ℕ) (xs : List (ℕ × ℕ)) → ((k : ℕ) (d : ℕ × ℕ) → k < length xs → (get_or xs k d).0 ≡ tid → ⊥) → None ≡ place_in tid xs
place_missing tid [] apart = refl
place_missing tid (x ∷ xs) apart =
    place_missing tid xs (λ k d within same. apart (suc k) d (omega arith) same)
    ∙ ap (λ b. cond b (Some x.1) (place_in tid xs)) (sym (ne_eqb x.0 tid (λ equal. apart 0 x (omega arith) equal)))

-- A search for a number

numbers_rise : (s : ℕ) (xs : List (ℕ × ℕ)) → ArePlaced xs → IsNonDecreasingBy (λ x. ordering_index (nat_cmp x.0 s)) xs
numbers_rise s xs rising i j d low within =
    ⊎_elim (λ same. rw same (omega arith)) (λ less. let up = rising i j d less within in grind (arith, nat_tests)) (eq-or-lt_of_le low)

pub found_at : (tid k : ℕ) (xs : List (ℕ × ℕ)) (d : ℕ × ℕ) → IsBinarySearchResult (λ x. nat_cmp x.0 tid) xs (Ok k) → (get_or xs k d).0 ≡ tid
found_at tid k xs d at = ranked (get_or xs k d).0 tid _ (sym (at d))

pub found_nowhere : (tid k : ℕ) (xs : List (ℕ × ℕ)) → ArePlaced xs → IsBinarySearchResult (λ x. nat_cmp x.0 tid) xs (Err k) → None ≡ place_in tid xs
found_nowhere tid k xs rising parted =
    let parts = parted (numbers_rise tid xs rising) in
    place_missing tid xs (λ j d within same. ⊎_elim
    (λ low. let less = ranked (get_or xs j d).0 tid _ (sym (parts.0 j d (omega arith) low)) in omega arith)
    (λ high. let more = ranked (get_or xs j d).0 tid _ (sym (parts.1 j d high within)) in omega arith)
    (cases_lt j k))

-- Which flushes stand in a front

-- the place is in a front of this length
abbrev pub is_in : ℕ → Option ℕ → Bool
is_in d o = option_map_or (λ n. nat_lt n d) o false

one_or : (c : Bool) (n d : ℕ) (o : Option ℕ) → is_in d (cond c (Some n) o) ≡ cond c (nat_lt n d) (is_in d o)
one_or true n d o = refl
one_or false n d o = refl

in_with : (f tid n d : ℕ) (o : Option Flush) (xs : List (ℕ × ℕ))
    → is_in d (place_in tid (with_place f n o xs)) ≡ cond (is_flush f tid o) (nat_lt n d) (is_in d (place_in tid xs))
in_with f tid n d None xs = refl
in_with f tid n d (Some x) xs = at (x.file == f)
  where
    at : (b : Bool) → is_in d (place_in tid (cond b ((x.tid, n) ∷ xs) xs)) ≡ cond (b && (x.tid == tid)) (nat_lt n d) (is_in d (place_in tid xs))
    at true = one_or (x.tid == tid) n d (place_in tid xs)
    at false = refl

pub both_false : (b c d : Bool) → c ≡ false → d ≡ false → cond b c d ≡ false
both_false true c d p q = p
both_false false c d p q = q

-- none of those behind the front
stands_behind : (f tid n d : ℕ) (rs : List Record) → d ≤ n → is_in d (place_in tid (places_from f n rs)) ≡ false
stands_behind f tid n d [] high = refl
stands_behind f tid n d (r ∷ rs) high =
    in_with f tid n d (flush_in r.body) (places_from f (n + 1) rs)
    ∙ both_false (is_flush f tid (flush_in r.body)) (nat_lt n d) _ (le-ltb n d high) (stands_behind f tid (n + 1) d rs (omega arith))

pub true_or : (b c d : Bool) → c ≡ true → cond b c d ≡ (b || d)
true_or true c d p = p
true_or false c d p = refl

stands_in_front : (f tid n d : ℕ) (rs : List Record) → is_in (n + d) (place_in tid (places_from f n rs)) ≡ has_flush f tid (take d rs)
stands_in_front f tid n zero [] = refl
stands_in_front f tid n (suc d) [] = refl
stands_in_front f tid n zero (r ∷ rs) = stands_behind f tid n (n + 0) (r ∷ rs) (omega arith)
stands_in_front f tid n (suc d) (r ∷ rs) =
    in_with f tid n (n + suc d) (flush_in r.body) (places_from f (n + 1) rs)
    ∙ (true_or (is_flush f tid (flush_in r.body)) (nat_lt n (n + suc d)) _ (lt-ltb n (n + suc d) (omega arith))
    ∙ ap (λ b. is_flush f tid (flush_in r.body) || b)
    (ap (λ k. is_in k (place_in tid (places_from f (n + 1) rs))) (omega arith) ∙ stands_in_front f tid (n + 1) d rs))

pub stands_durable : (f tid d : ℕ) (rs : List Record) → is_in d (place_in tid (places_from f 0 rs)) ≡ has_flush f tid (take d rs)
stands_durable f tid d rs = ap (λ k. is_in k (place_in tid (places_from f 0 rs))) (omega arith) ∙ stands_in_front f tid 0 d rs
