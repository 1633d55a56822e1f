-- The last flush of a front, where those of the front are the ones of the time before a state; and the place of a number.
use Rattle.std.proofs.Common.{◌≡◌, ◌∙◌, refl, sym, ap, ℕ, zero, suc, ◌-◌, ◌≤◌, true, false, List, [], ◌∷◌, length, take, Option, Some, None, Ok, Err, arith, get_or, nat_lt, slice_get, slice_index_or, unwrap_or, ⊎_elim}
use Rattle.std.specs.List.{insert}
use Rattle.std.specs.List.Sorted.{IsBinarySearchResult, IsNonDecreasingBy, IsPartitionPoint, IsPartitionedBy}
use Rattle.std.specs.Ordering.{nat_cmp, ordering_index}
use Rattle.std.proofs.lemmas.Bool.Decides.{nat_tests}
use Rattle.std.proofs.lemmas.Cmp.{ranked}
use Rattle.std.proofs.lemmas.List.Sorted.{IsPartitionedBy-ltb}
use Rattle.std.proofs.Math.Nat.{eq-or-lt_of_le}
use Rattle.cs_ids.specs.declared.objects.FileMeta.{FileMeta}
use Rattle.cs_laws.specs.declared.objects.At.{At}
use Rattle.cs_laws.specs.Metadata.{no_meta}
use Rattle.cs_laws.specs.Shown.{is_before}
use Rattle.cs_records.specs.Recorded.{AreRising, last_before, last_of, last_recorded, with_recorded}
use Rattle.cs_records.proofs.RecordedPlaces.{with_inserted}

-- the metadata of the last flush
abbrev last_meta : List (ℕ × FileMeta) → Option FileMeta
last_meta [] = None
last_meta (x ∷ xs) = last_of (last_meta xs) true x.1

-- so many flushes, and no others, are of the time before a state
abbrev pub CutsAt : At → List (ℕ × FileMeta) → ℕ → Type 0
CutsAt a xs n = IsPartitionPoint (λ x. is_before a x.0 ≡ true) (λ x. is_before a x.0 ≡ false) xs n

before_front : (a : At) (n : ℕ) (xs : List (ℕ × FileMeta)) → n ≤ length xs → CutsAt a xs n → last_before a xs ≡ last_meta (take n xs)
before_front a zero [] few cut = refl
before_front a (suc n) [] few cut = absurd (omega (arith, few))
before_front a zero (x ∷ xs) few cut =
    let late : is_before a x.0 ≡ false = cut.1 0 x (omega arith) (omega arith) in
    let rest : last_before a xs ≡ None =
    before_front a zero xs (omega arith)
    ((λ k d low high. absurd (omega (arith, high))), (λ k d low high. cut.1 (suc k) d (omega arith) (omega (arith, high)))) in
    rw (late, rest) refl
before_front a (suc n) (x ∷ xs) few cut =
    let early : is_before a x.0 ≡ true = cut.0 0 x (omega arith) (omega arith) in
    let rest =
    before_front a n xs (omega (arith, few)) (
      (λ k d low high. cut.0 (suc k) d (omega arith) (omega (arith, high))),
      (λ k d low high. cut.1 (suc k) d (omega (arith, low)) (omega (arith, high))),
    ) in
    rw (early, rest) refl

told_front : (a : At) (n : ℕ) (xs : List (ℕ × FileMeta)) → n ≤ length xs → CutsAt a xs n → last_recorded a xs ≡ unwrap_or (last_meta (take n xs)) no_meta
told_front a n xs few cut = ap (λ o. unwrap_or o no_meta) (before_front a n xs few cut)

last_is : (x : ℕ × FileMeta) (xs : List (ℕ × FileMeta)) → slice_get xs (length xs - 1) ≡ Some x → last_meta xs ≡ Some x.1
last_is x [] there = cc there
last_is x (y ∷ []) there =
    let same : y ≡ x = cc there in
    ap (λ z. Some z.1) same
last_is x (y ∷ z ∷ xs) there =
    let less : length (y ∷ z ∷ xs) - 1 ≡ suc (length (z ∷ xs) - 1) = omega arith in
    let rest = last_is x (z ∷ xs) (rw less at there) in
    rw rest refl

-- the one at the end of the front
pub last_recorded_some : (a : At) (n : ℕ) (xs : List (ℕ × FileMeta)) (x : ℕ × FileMeta) → n ≤ length xs → CutsAt a xs n
    → slice_get (take n xs) (length (take n xs) - 1) ≡ Some x → x.1 ≡ last_recorded a xs
last_recorded_some a n xs x few cut there = sym (told_front a n xs few cut ∙ ap (λ o. unwrap_or o no_meta) (last_is x (take n xs) there))

filled : (y : ℕ × FileMeta) (xs : List (ℕ × FileMeta)) → slice_get (y ∷ xs) (length xs) ≡ None → ⊥
filled y [] e = cc e
filled y (z ∷ xs) e = filled z xs e

last_none : (xs : List (ℕ × FileMeta)) → slice_get xs (length xs - 1) ≡ None → last_meta xs ≡ None
last_none [] e = refl
last_none (y ∷ xs) e =
    let less : length (y ∷ xs) - 1 ≡ length xs = omega arith in
    absurd (filled y xs (rw less at e))

-- and where the front is empty
pub last_recorded_none : (a : At) (n : ℕ) (xs : List (ℕ × FileMeta)) → n ≤ length xs → CutsAt a xs n
    → slice_get (take n xs) (length (take n xs) - 1) ≡ None → no_meta ≡ last_recorded a xs
last_recorded_none a n xs few cut e = sym (told_front a n xs few cut ∙ ap (λ o. unwrap_or o no_meta) (last_none (take n xs) e))

-- the numbers rise, so those below one stand in front
pub rising_parts : (s : ℕ) (xs : List (ℕ × FileMeta)) → AreRising xs → IsPartitionedBy (λ x. nat_lt x.0 s) xs
rising_parts s xs rising = IsPartitionedBy-ltb (λ (x : ℕ × FileMeta). x.0) xs s
    (λ i j d below inside. ⊎_elim (λ same. omega (arith, ap (λ k. (slice_index_or xs k d).0) same)) (λ less. omega (arith, rising i j d less inside))
    (eq-or-lt_of_le below))

-- A search for a number

-- the comparisons with it rise along the table, as a search asks
comparisons_rise : (s : ℕ) (xs : List (ℕ × FileMeta)) → AreRising xs → IsNonDecreasingBy (λ x. ordering_index (nat_cmp x.0 s)) xs
comparisons_rise s xs rising i j d low within =
    ⊎_elim (λ same. rw same (omega arith)) (λ less. let up = rising i j d less within in grind (arith, nat_tests)) (eq-or-lt_of_le low)

-- it ends at the number
pub found_there : (s k : ℕ) (xs : List (ℕ × FileMeta)) (d : ℕ × FileMeta) → IsBinarySearchResult (λ x. nat_cmp x.0 s) xs (Ok k) → (get_or xs k d).0 ≡ s
found_there s k xs d at = ranked (get_or xs k d).0 s _ (sym (at d))

-- or at the place for it
pub inserted_there : (x : ℕ × FileMeta) (k : ℕ) (xs : List (ℕ × FileMeta)) → AreRising xs → k ≤ length xs
    → IsBinarySearchResult (λ y. nat_cmp y.0 x.0) xs (Err k) → insert xs k x ≡ with_recorded x xs
inserted_there x k xs rising within parted =
    let parts = parted (comparisons_rise x.0 xs rising) in
    with_inserted x xs k (record {
      within = within;
      smaller = λ j d low. ranked (get_or xs j d).0 x.0 _ (sym (parts.0 j d (omega arith) low));
      greater = λ j d low inside. ranked (get_or xs j d).0 x.0 _ (sym (parts.1 j d low inside));
    })
