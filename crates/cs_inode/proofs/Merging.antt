-- The reports of two rising lists, merged by the numbers of their flushes.
use Rattle.std.proofs.Common.{◌≡◌, ◌∙◌, refl, sym, ap, ℕ, zero, suc, ◌+◌, ◌-◌, ◌<◌, ◌≤◌, ◌==◌, Bool, true, false, not, cond, ltb, nat_lt, if◌then◌else◌, Bor, List, [], ◌∷◌, ◌++◌, append_assoc, add-one, drop, filter, length, map, All, AllPairs, Option, Some, None, slice_get, length-drop, arith}
use Rattle.std.specs.Option.{option_copied}
use Rattle.std.specs.Slice.{IsItemAt}
use Rattle.std.proofs.lemmas.Bool.{eqb-false, ltb-true, ltb-false}
use Rattle.std.proofs.lemmas.List.{append-nil, length-append}
use Rattle.std.proofs.lemmas.List.Elements.{All-nil, All-cons, All-head, All-map, All-tail, All-weaker}
use Rattle.std.proofs.lemmas.List.Kept.{AllPairs-cons}
use Rattle.std.proofs.lemmas.Option.{slice_get_past, slice_get_read}
use Rattle.cs_ids.specs.declared.objects.FileMeta.{FileMeta}
use Rattle.cs_capsnap.specs.Order.{IsAscending}
use Rattle.cs_flush.specs.declared.report.FlushReport.{FlushReport}
use Rattle.cs_flush.specs.declared.sent.Sent.{Sent}
use Rattle.cs_flush.specs.Flushes.{IsRising}
use Rattle.cs_flush.proofs.Rising.{rising_head, rising_tail}
use Rattle.cs_inode.specs.Reports.{AreReports, file_report, first_report, snap_report}

-- what is told of a cap snap that was sent
abbrev pub Told : Type 0
Told = ℕ × ℕ × FileMeta

-- no cap snap was sent in the flush of a number
abbrev pub IsUntold : ℕ → List Told → Type 0
IsUntold n us = All (λ u. (u.0 == n) ≡ false) us

-- none was in one of these flushes of the file
abbrev pub AllUntold : List Sent → List Told → Type 0
AllUntold xs us = All (λ x. IsUntold x.tid us) xs

-- x goes behind all of the others that have a lesser number, and then the rest
abbrev front : (List FlushReport → List FlushReport) → FlushReport → List FlushReport → List FlushReport
front rest x [] = x ∷ rest []
front rest x (y ∷ ys) = if nat_lt y.sent.tid x.sent.tid then y ∷ front rest x ys else x ∷ rest (y ∷ ys)

abbrev merge : List FlushReport → List FlushReport → List FlushReport
merge [] ys = ys
merge (x ∷ xs) ys = front (λ zs. merge xs zs) x ys

-- the reports of flushes of a file and of its cap snaps
abbrev pub reports_of : ℕ → List Sent → List Told → List FlushReport
reports_of ino xs us = merge (map (file_report ino) xs) (map (snap_report ino) us)

-- They are the flushes of the file and those of the cap snaps

no_files : (ino : ℕ) (us : List Told) → filter (λ r. not r.snap) (map (snap_report ino) us) ≡ []
no_files ino [] = refl
no_files ino (u ∷ us) = no_files ino us

files_at : (ino : ℕ) (x : Sent) (xs : List Sent) → ((us : List Told) → filter (λ r. not r.snap) (reports_of ino xs us) ≡ map (file_report ino) xs)
    → (us : List Told) → filter (λ r. not r.snap) (reports_of ino (x ∷ xs) us) ≡ map (file_report ino) (x ∷ xs)
files_at ino x xs rest [] = ap (λ rs. file_report ino x ∷ rs) (rest [])
files_at ino x xs rest (u ∷ us) = at (ltb u.0 x.tid) (files_at ino x xs rest us)
  where
    at : (b : Bool) → filter (λ r. not r.snap) (reports_of ino (x ∷ xs) us) ≡ map (file_report ino) (x ∷ xs)
        → filter (λ r. not r.snap) (cond b (snap_report ino u ∷ reports_of ino (x ∷ xs) us) (file_report ino x ∷ reports_of ino xs (u ∷ us)))
        ≡ map (file_report ino) (x ∷ xs)
    at true before = before
    at false before = ap (λ rs. file_report ino x ∷ rs) (rest (u ∷ us))

files_of : (ino : ℕ) (xs : List Sent) (us : List Told) → filter (λ r. not r.snap) (reports_of ino xs us) ≡ map (file_report ino) xs
files_of ino [] us = no_files ino us
files_of ino (x ∷ xs) us = files_at ino x xs (λ vs. files_of ino xs vs) us

all_snaps : (ino : ℕ) (us : List Told) → filter (λ r. r.snap) (map (snap_report ino) us) ≡ map (snap_report ino) us
all_snaps ino [] = refl
all_snaps ino (u ∷ us) = ap (λ rs. snap_report ino u ∷ rs) (all_snaps ino us)

snaps_at : (ino : ℕ) (x : Sent) (xs : List Sent) → ((us : List Told) → filter (λ r. r.snap) (reports_of ino xs us) ≡ map (snap_report ino) us)
    → (us : List Told) → filter (λ r. r.snap) (reports_of ino (x ∷ xs) us) ≡ map (snap_report ino) us
snaps_at ino x xs rest [] = rest []
snaps_at ino x xs rest (u ∷ us) = at (ltb u.0 x.tid) (snaps_at ino x xs rest us)
  where
    at : (b : Bool) → filter (λ r. r.snap) (reports_of ino (x ∷ xs) us) ≡ map (snap_report ino) us
        → filter (λ r. r.snap) (cond b (snap_report ino u ∷ reports_of ino (x ∷ xs) us) (file_report ino x ∷ reports_of ino xs (u ∷ us)))
        ≡ map (snap_report ino) (u ∷ us)
    at true before = ap (λ rs. snap_report ino u ∷ rs) before
    at false before = rest (u ∷ us)

snaps_of : (ino : ℕ) (xs : List Sent) (us : List Told) → filter (λ r. r.snap) (reports_of ino xs us) ≡ map (snap_report ino) us
snaps_of ino [] us = all_snaps ino us
snaps_of ino (x ∷ xs) us = snaps_at ino x xs (λ vs. snaps_of ino xs vs) us

-- They are in order

abbrev IsUpward : List FlushReport → Type 0
IsUpward rs = AllPairs (λ a b. a.sent.tid < b.sent.tid) rs

abbrev AllAbove : ℕ → List FlushReport → Type 0
AllAbove low rs = All (λ r. low < r.sent.tid) rs

-- no report has the number
abbrev IsOther : ℕ → List FlushReport → Type 0
IsOther n rs = All (λ r. (r.sent.tid == n) ≡ false) rs

-- no number is in both lists
abbrev AllOther : List FlushReport → List FlushReport → Type 0
AllOther xs ys = All (λ x. IsOther x.sent.tid ys) xs

other_tail : (xs : List FlushReport) (y : FlushReport) (ys : List FlushReport) → AllOther xs (y ∷ ys) → AllOther xs ys
other_tail xs y ys o =
    All-weaker (λ x. IsOther x.sent.tid (y ∷ ys)) (λ x. IsOther x.sent.tid ys) (λ x a. All-tail (λ r. (r.sent.tid == x.sent.tid) ≡ false) y ys a) xs o

upward_head : (x : FlushReport) (xs : List FlushReport) → IsUpward (x ∷ xs) → AllAbove x.sent.tid xs
upward_head x xs up = λ k d l. up 0 (suc k) d (omega arith) (omega arith)

upward_tail : (x : FlushReport) (xs : List FlushReport) → IsUpward (x ∷ xs) → IsUpward xs
upward_tail x xs up = λ i j d l m. up (suc i) (suc j) d (omega arith) (omega arith)

above_front : (low : ℕ) (rest : List FlushReport → List FlushReport) (x : FlushReport) (ys : List FlushReport) → low < x.sent.tid
    → ((zs : List FlushReport) → AllAbove low zs → AllAbove low (rest zs)) → AllAbove low ys → AllAbove low (front rest x ys)
above_front low rest x [] first more all = All-cons (λ r. low < r.sent.tid) x (rest []) first (more [] all)
above_front low rest x (y ∷ ys) first more all =
    at (ltb y.sent.tid x.sent.tid) (above_front low rest x ys first more (All-tail (λ r. low < r.sent.tid) y ys all))
  where
    at : (b : Bool) → AllAbove low (front rest x ys) → AllAbove low (cond b (y ∷ front rest x ys) (x ∷ rest (y ∷ ys)))
    at true before = All-cons (λ r. low < r.sent.tid) y (front rest x ys) (All-head (λ r. low < r.sent.tid) y ys all) before
    at false before = All-cons (λ r. low < r.sent.tid) x (rest (y ∷ ys)) first (more (y ∷ ys) all)

above_merge : (low : ℕ) (xs ys : List FlushReport) → AllAbove low xs → AllAbove low ys → AllAbove low (merge xs ys)
above_merge low [] ys a b = b
above_merge low (x ∷ xs) ys a b =
    above_front low (λ zs. merge xs zs) x ys (All-head (λ r. low < r.sent.tid) x xs a)
    (λ zs c. above_merge low xs zs (All-tail (λ r. low < r.sent.tid) x xs a) c) b

above_less : (low high : ℕ) (xs : List FlushReport) → low < high → AllAbove high xs → AllAbove low xs
above_less low high xs l all = All-weaker (λ r. high < r.sent.tid) (λ r. low < r.sent.tid) (λ r k. omega arith) xs all

upward_at : (x : FlushReport) (xs : List FlushReport) → AllAbove x.sent.tid xs
    → ((zs : List FlushReport) → IsUpward zs → AllOther xs zs → IsUpward (merge xs zs))
    → (ys : List FlushReport) → IsUpward ys → AllOther (x ∷ xs) ys → IsUpward (merge (x ∷ xs) ys)
upward_at x xs low rest [] up o =
    AllPairs-cons (λ a b. a.sent.tid < b.sent.tid) x (merge xs []) (above_merge x.sent.tid xs [] low (All-nil (λ r. x.sent.tid < r.sent.tid)))
    (rest [] up (All-tail (λ z. IsOther z.sent.tid []) x xs o))
upward_at x xs low rest (y ∷ ys) up o =
    at (ltb y.sent.tid x.sent.tid) refl (upward_at x xs low rest ys (upward_tail y ys up) (other_tail (x ∷ xs) y ys o))
  where
    at : (b : Bool) → ltb y.sent.tid x.sent.tid ≡ b → IsUpward (merge (x ∷ xs) ys) → IsUpward (cond b (y ∷ merge (x ∷ xs) ys) (x ∷ merge xs (y ∷ ys)))
    at true e before =
        let l : y.sent.tid < x.sent.tid = ltb-true y.sent.tid x.sent.tid e in
        AllPairs-cons (λ a b. a.sent.tid < b.sent.tid) y (merge (x ∷ xs) ys)
        (above_merge y.sent.tid (x ∷ xs) ys
        (All-cons (λ r. y.sent.tid < r.sent.tid) x xs l (above_less y.sent.tid x.sent.tid xs l low)) (upward_head y ys up))
        before
    at false e before =
        let other = All-head (λ z. IsOther z.sent.tid (y ∷ ys)) x xs o in
        let apart = eqb-false y.sent.tid x.sent.tid (All-head (λ r. (r.sent.tid == x.sent.tid) ≡ false) y ys other) in
        let from : x.sent.tid ≤ y.sent.tid = ltb-false y.sent.tid x.sent.tid e in
        let l : x.sent.tid < y.sent.tid = omega (arith, apart) in
        AllPairs-cons (λ a b. a.sent.tid < b.sent.tid) x (merge xs (y ∷ ys))
        (above_merge x.sent.tid xs (y ∷ ys) low
        (All-cons (λ r. x.sent.tid < r.sent.tid) y ys l (above_less x.sent.tid y.sent.tid ys l (upward_head y ys up))))
        (rest (y ∷ ys) up (All-tail (λ z. IsOther z.sent.tid (y ∷ ys)) x xs o))

upward_merge : (xs ys : List FlushReport) → IsUpward xs → IsUpward ys → AllOther xs ys → IsUpward (merge xs ys)
upward_merge [] ys a b o = b
upward_merge (x ∷ xs) ys a b o = upward_at x xs (upward_head x xs a) (λ zs c p. upward_merge xs zs (upward_tail x xs a) c p) ys b o

files_upward : (ino : ℕ) (xs : List Sent) → IsRising xs → IsUpward (map (file_report ino) xs)
files_upward ino [] r = λ i j d l m. absurd (omega arith)
files_upward ino (x ∷ xs) r =
    AllPairs-cons (λ a b. a.sent.tid < b.sent.tid) (file_report ino x) (map (file_report ino) xs)
    (All-map (λ y. x.tid < y.sent.tid) (file_report ino) xs (rising_head x xs r)) (files_upward ino xs (rising_tail x xs r))

snaps_above : (ino low : ℕ) (us : List Told) → All (λ t. low < t) (map (λ u. u.0) us) → AllAbove low (map (snap_report ino) us)
snaps_above ino low [] all = All-nil (λ r. low < r.sent.tid)
snaps_above ino low (u ∷ us) all =
    All-cons (λ r. low < r.sent.tid) (snap_report ino u) (map (snap_report ino) us) (All-head (λ t. low < t) u.0 (map (λ v. v.0) us) all)
    (snaps_above ino low us (All-tail (λ t. low < t) u.0 (map (λ v. v.0) us) all))

snaps_upward : (ino : ℕ) (us : List Told) → IsAscending (map (λ u. u.0) us) → IsUpward (map (snap_report ino) us)
snaps_upward ino [] a = λ i j d l m. absurd (omega arith)
snaps_upward ino (u ∷ us) a =
    AllPairs-cons (λ a b. a.sent.tid < b.sent.tid) (snap_report ino u) (map (snap_report ino) us)
    (snaps_above ino u.0 us (λ k d l. a 0 (suc k) d (omega arith) (omega arith)))
    (snaps_upward ino us (λ i j d l m. a (suc i) (suc j) d (omega arith) (omega arith)))

reports_other : (ino : ℕ) (xs : List Sent) (us : List Told) → AllUntold xs us → AllOther (map (file_report ino) xs) (map (snap_report ino) us)
reports_other ino xs us o =
    All-map (λ r. IsOther r.sent.tid (map (snap_report ino) us)) (file_report ino) xs
    (All-weaker (λ x. IsUntold x.tid us) (λ x. IsOther x.tid (map (snap_report ino) us))
    (λ x p. All-map (λ r. (r.sent.tid == x.tid) ≡ false) (snap_report ino) us p) xs o)

are_reports : (ino : ℕ) (xs : List Sent) (us : List Told) (rs : List FlushReport) → IsRising xs → IsAscending (map (λ u. u.0) us) → AllUntold xs us
    → rs ≡ reports_of ino xs us → AreReports ino xs us rs
are_reports ino xs us rs rising ascending apart is = rw is (record {
  of_files = files_of ino xs us;
  of_snaps = snaps_of ino xs us;
  order =
      upward_merge (map (file_report ino) xs) (map (snap_report ino) us) (files_upward ino xs rising) (snaps_upward ino us ascending)
      (reports_other ino xs us apart);
})

-- One by one

took_snap : (ino : ℕ) (xs : List Sent) (us : List Told) (r : FlushReport) → first_report ino (slice_get xs 0) (slice_get us 0) ≡ Some r → r.snap ≡ true
    → (reports_of ino xs us ≡ r ∷ reports_of ino xs (drop 1 us)) × (0 < length us)
took_snap ino [] [] r e s = absurd cc
took_snap ino [] (u ∷ us) r e s =
    let is : snap_report ino u ≡ r = cc in
    (ap (λ q. q ∷ map (snap_report ino) us) is, omega arith)
took_snap ino (x ∷ xs) [] r e s =
    let is : file_report ino x ≡ r = cc in
    let never : false ≡ true = ap (λ q. q.snap) is ∙ s in
    absurd cc
took_snap ino (x ∷ xs) (u ∷ us) r e s = (at (ltb u.0 x.tid) e, omega arith)
  where
    at : (b : Bool) → cond b (Some (snap_report ino u)) (Some (file_report ino x)) ≡ Some r
        → cond b (snap_report ino u ∷ reports_of ino (x ∷ xs) us) (file_report ino x ∷ reports_of ino xs (u ∷ us)) ≡ r ∷ reports_of ino (x ∷ xs) us
    at true e =
        let is : snap_report ino u ≡ r = cc in
        ap (λ q. q ∷ reports_of ino (x ∷ xs) us) is
    at false e =
        let is : file_report ino x ≡ r = cc in
        let never : false ≡ true = ap (λ q. q.snap) is ∙ s in
        absurd cc

took_file : (ino : ℕ) (xs : List Sent) (us : List Told) (r : FlushReport) → first_report ino (slice_get xs 0) (slice_get us 0) ≡ Some r → r.snap ≡ false
    → (reports_of ino xs us ≡ r ∷ reports_of ino (drop 1 xs) us) × (0 < length xs)
took_file ino [] [] r e s = absurd cc
took_file ino [] (u ∷ us) r e s =
    let is : snap_report ino u ≡ r = cc in
    let never : true ≡ false = ap (λ q. q.snap) is ∙ s in
    absurd cc
took_file ino (x ∷ xs) [] r e s =
    let is : file_report ino x ≡ r = cc in
    (ap (λ q. q ∷ reports_of ino xs []) is, omega arith)
took_file ino (x ∷ xs) (u ∷ us) r e s = (at (ltb u.0 x.tid) e, omega arith)
  where
    at : (b : Bool) → cond b (Some (snap_report ino u)) (Some (file_report ino x)) ≡ Some r
        → cond b (snap_report ino u ∷ reports_of ino (x ∷ xs) us) (file_report ino x ∷ reports_of ino xs (u ∷ us)) ≡ r ∷ reports_of ino xs (u ∷ us)
    at true e =
        let is : snap_report ino u ≡ r = cc in
        let never : true ≡ false = ap (λ q. q.snap) is ∙ s in
        absurd cc
    at false e =
        let is : file_report ino x ≡ r = cc in
        ap (λ q. q ∷ reports_of ino xs (u ∷ us)) is

none_left : (ino : ℕ) (xs : List Sent) (us : List Told) → first_report ino (slice_get xs 0) (slice_get us 0) ≡ None → reports_of ino xs us ≡ []
none_left ino [] [] e = refl
none_left ino [] (u ∷ us) e = absurd cc
none_left ino (x ∷ xs) [] e = absurd cc
none_left ino (x ∷ xs) (u ∷ us) e = at (ltb u.0 x.tid) e
  where
    at : (b : Bool) → cond b (Some (snap_report ino u)) (Some (file_report ino x)) ≡ None
        → cond b (snap_report ino u ∷ reports_of ino (x ∷ xs) us) (file_report ino x ∷ reports_of ino xs (u ∷ us)) ≡ []
    at true e = absurd cc
    at false e = absurd cc

-- what a look-up gives
pub looked_up : {X : Type 0} (xs : List X) (i : ℕ) (r : Option (Bor X)) → IsItemAt xs i r → option_copied r ≡ slice_get xs i
looked_up xs i None h = sym (slice_get_past xs i h.3)
looked_up xs i (Some x) h = sym (slice_get_read xs (length xs) i x.now refl h.3.0 h.1)

-- the first of those from a place on is the one at the place
at_place : {A : Type 0} (xs : List A) (i : ℕ) → slice_get xs i ≡ slice_get (drop i xs) 0
at_place xs zero = refl
at_place [] (suc i) = refl
at_place (x ∷ xs) (suc i) = at_place xs i

behind_place : {A : Type 0} (xs : List A) (i : ℕ) → drop 1 (drop i xs) ≡ drop (suc i) xs
behind_place xs zero = refl
behind_place [] (suc i) = refl
behind_place (x ∷ xs) (suc i) = behind_place xs i

short : {A : Type 0} (xs : List A) (i : ℕ) → 0 < length (drop i xs) → i < length xs
short xs i l = omega (arith, length-drop i xs)

-- so many reports of flushes of the file are made, and the others are those of cap snaps
pub record IsUnderway (ino : ℕ) (xs : List Sent) (us : List Told) (rs : List FlushReport) (n : ℕ) : Type 0 where
  pub files : n ≤ length xs
  pub done : n ≤ length rs
  pub snaps : length rs - n ≤ length us
  pub left : reports_of ino xs us ≡ rs ++ reports_of ino (drop n xs) (drop (length rs - n) us)

pub begun : (ino : ℕ) (xs : List Sent) (us : List Told) → IsUnderway ino xs us [] 0
begun ino xs us = record { files = omega arith; done = omega arith; snaps = omega arith; left = refl }

one_first : (ino : ℕ) (xs : List Sent) (us : List Told) (n k : ℕ) (o : Option FlushReport) → first_report ino (slice_get xs n) (slice_get us k) ≡ o
    → first_report ino (slice_get (drop n xs) 0) (slice_get (drop k us) 0) ≡ o
one_first ino xs us n k o e = rw (at_place xs n, at_place us k) at e

pub one_more_file : (ino : ℕ) (xs : List Sent) (us : List Told) (rs more : List FlushReport) (r : FlushReport) (n : ℕ) → IsUnderway ino xs us rs n
    → first_report ino (slice_get xs n) (slice_get us (length rs - n)) ≡ Some r → r.snap ≡ false → more ≡ rs ++ r ∷ [] → IsUnderway ino xs us more (n + 1)
one_more_file ino xs us rs more r n i e s grown =
    let k : ℕ = length rs - n in
    let took = took_file ino (drop n xs) (drop k us) r (one_first ino xs us n k (Some r) e) s in
    let longer : length more ≡ length rs + 1 = ap length grown ∙ length-append rs (r ∷ []) in
    let same : length more - (n + 1) ≡ length rs - n = omega (arith, i.done) in
    let behind : drop 1 (drop n xs) ≡ drop (n + 1) xs = rw add-one (behind_place xs n) in
    record {
      files = omega (arith, short xs n took.1);
      done = omega (arith, i.done);
      snaps = omega (arith, i.snaps);
      left =
          rw same
          (i.left ∙ (ap (λ q. rs ++ q) took.0 ∙ (sym (append_assoc rs (r ∷ []) (reports_of ino (drop 1 (drop n xs)) (drop k us)))
          ∙ (ap (λ q. q ++ reports_of ino (drop 1 (drop n xs)) (drop k us)) (sym grown) ∙ ap (λ q. more ++ reports_of ino q (drop k us)) behind))));
    }

pub one_more_snap : (ino : ℕ) (xs : List Sent) (us : List Told) (rs more : List FlushReport) (r : FlushReport) (n : ℕ) → IsUnderway ino xs us rs n
    → first_report ino (slice_get xs n) (slice_get us (length rs - n)) ≡ Some r → r.snap ≡ true → more ≡ rs ++ r ∷ [] → IsUnderway ino xs us more n
one_more_snap ino xs us rs more r n i e s grown =
    let k : ℕ = length rs - n in
    let took = took_snap ino (drop n xs) (drop k us) r (one_first ino xs us n k (Some r) e) s in
    let longer : length more ≡ length rs + 1 = ap length grown ∙ length-append rs (r ∷ []) in
    let next : length more - n ≡ suc (length rs - n) = omega (arith, i.done) in
    record {
      files = i.files;
      done = omega (arith, i.done);
      snaps = omega (arith, short us k took.1);
      left =
          rw next
          (i.left ∙ (ap (λ q. rs ++ q) took.0 ∙ (sym (append_assoc rs (r ∷ []) (reports_of ino (drop n xs) (drop 1 (drop k us))))
          ∙ (ap (λ q. q ++ reports_of ino (drop n xs) (drop 1 (drop k us))) (sym grown)
          ∙ ap (λ q. more ++ reports_of ino (drop n xs) q) (behind_place us k)))));
    }

pub all_made : (ino : ℕ) (xs : List Sent) (us : List Told) (rs : List FlushReport) (n : ℕ) → IsUnderway ino xs us rs n
    → first_report ino (slice_get xs n) (slice_get us (length rs - n)) ≡ None → IsRising xs → IsAscending (map (λ u. u.0) us) → AllUntold xs us
    → AreReports ino xs us rs
all_made ino xs us rs n i e rising ascending apart =
    let k : ℕ = length rs - n in
    let none = none_left ino (drop n xs) (drop k us) (one_first ino xs us n k None e) in
    are_reports ino xs us rs rising ascending apart (sym (i.left ∙ (ap (λ q. rs ++ q) none ∙ append-nil rs)))
