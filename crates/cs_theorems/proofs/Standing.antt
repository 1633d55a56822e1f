-- Flushes among records and messages: what carries them, and the numbers of those of one file.
use Rattle.std.proofs.Common.{◌≡◌, refl, sym, ap, ◌∙◌, subst, ℕ, ◌≤◌, max, true, cond, ◌==◌, List, [], ◌∷◌, ◌++◌, Option, Some, None, map, inl, inr, arith}
use Rattle.std.specs.List.{cons_option, filter_map}
use Rattle.std.proofs.lemmas.Bool.{and_parts, cond_both, eq-eqb, eqb-true}
use Rattle.std.proofs.lemmas.Grind.{flat_map-append}
use Rattle.cs_laws.specs.declared.records.Record.{Record}
use Rattle.cs_laws.specs.declared.records.RecordBody.{RecordBody}
use Rattle.cs_laws.specs.declared.records.RecordBody.TheVariants as bodies
use Rattle.cs_laws.specs.Carried.{flush_in, flush_on}
use Rattle.cs_laws.specs.Flushes.{Flush, flush_message, flush_record}
use Rattle.cs_laws.specs.Laws.{tid_on, tids}
use Rattle.cs_laws.specs.Lists.{RisesFrom}
use Rattle.cs_laws.specs.Standing.{greatest_tid, has_flush, is_flush, recorded_of, tid_if}
use Rattle.cs_theorems.specs.Flushes.{IsSent, flushes_in}
use Rattle.cs_theorems.proofs.Listed.{Each, Member, each_cons, each_nil, each_tail}
use Rattle.cs_theorems.proofs.Rising.{member_flat}
use Rattle.cs_theorems.proofs.Tests.{any_some}

-- As a message, and as a record

pub carried_flush : (x : Flush) → flush_on (flush_message x) ≡ Some x
carried_flush x =
    cond_both x.snap _ _ (λ m. flush_on m ≡ Some x)
    (λ is. ap (λ b. Some (record x { snap = b })) (sym is)) (λ is. ap (λ b. Some (record x { snap = b })) (sym is))

pub recorded_one : (x : Flush) → recorded_of (flush_on (flush_message x)) ≡ flush_record x ∷ []
recorded_one x = ap recorded_of (carried_flush x)

-- where each flush of a list was sent, what has it is that of one that was sent
pub each_sent : {A : Type 0} (F : A → Option Flush) (xs : List Flush) (ys : List A) → Each (λ x. Member x xs) (filter_map F ys) → Each (λ y. IsSent xs (F y)) ys
each_sent F xs [] all = each_nil (λ y. IsSent xs (F y))
each_sent F xs (y ∷ ys) all = each_cons (λ z. IsSent xs (F z)) y ys (at (F y) all).0 (each_sent F xs ys (at (F y) all).1)
  where
    at : (o : Option Flush) → Each (λ x. Member x xs) (cons_option o (filter_map F ys)) → IsSent xs o × Each (λ x. Member x xs) (filter_map F ys)
    at None own = (tt, own)
    at (Some x) own = (own x (inl refl), each_tail (λ z. Member z xs) x (filter_map F ys) own)

-- a flush among the records has its record there
pub has_record : (x : Flush) (rs : List Record) → Member x (flushes_in rs) → Member (flush_record x) rs
has_record x [] there = absurd there
has_record x (r ∷ rs) there = at r.body there (λ m. has_record x rs m)
  where
    at : (b : RecordBody) → Member x (cons_option (flush_in b) (flushes_in rs)) → (Member x (flushes_in rs) → Member (flush_record x) rs)
        → Member (flush_record x) (record { body = b } ∷ rs)
    at (bodies.Flush snap f tid follows meta) (inl is) rest = inl (ap flush_record is)
    at (bodies.Flush snap f tid follows meta) (inr more) rest = inr (rest more)
    at (bodies.Request tid op answer) more rest = inr (rest more)
    at (bodies.Snap number d name) more rest = inr (rest more)
    at (bodies.Removal s number) more rest = inr (rest more)

-- The numbers of one file's flushes

pub tids_append : (f : ℕ) (rs ss : List Record) → tids f (rs ++ ss) ≡ tids f rs ++ tids f ss
tids_append f rs ss = flat_map-append (λ r. tid_on f (flush_in r.body)) rs ss

pub own_tid : (f : ℕ) (x : Flush) → x.file ≡ f → Member x.tid (tid_on f (Some x))
own_tid f x of_f = subst (λ b. Member x.tid (cond b (x.tid ∷ []) [])) (sym (eq-eqb x.file f of_f)) (inl refl)

pub record_member : (f : ℕ) (x : Flush) (rs : List Record) → x.file ≡ f → Member (flush_record x) rs → Member x.tid (tids f rs)
record_member f x rs of_f stands = member_flat (λ r. tid_on f (flush_in r.body)) (flush_record x) x.tid rs stands (own_tid f x of_f)

-- each is that of a flush of the file among the records
pub record HasTid (f n : ℕ) (xs : List Flush) : Type 0 where
  pub flush : Flush
  pub there : Member flush xs
  pub file : flush.file ≡ f
  pub tid : flush.tid ≡ n

pub tid_has : (f n : ℕ) (rs : List Record) → Member n (tids f rs) → HasTid f n (flushes_in rs)
tid_has f n [] there = absurd there
tid_has f n (r ∷ rs) there = at (flush_in r.body) there (λ m. tid_has f n rs m)
  where
    behind : (o : Option Flush) → HasTid f n (flushes_in rs) → HasTid f n (cons_option o (flushes_in rs))
    behind None i = i
    behind (Some x) i = record { flush = i.flush; there = inr i.there; file = i.file; tid = i.tid }

    at : (o : Option Flush) → Member n (tid_on f o ++ tids f rs) → (Member n (tids f rs) → HasTid f n (flushes_in rs))
        → HasTid f n (cons_option o (flushes_in rs))
    at None more rest = rest more
    at (Some x) more rest =
        cond_both (x.file == f) (x.tid ∷ []) [] (λ ns. Member n (ns ++ tids f rs) → HasTid f n (x ∷ flushes_in rs))
        (λ own m. first x (eqb-true x.file f own) m) (λ _ m. behind (Some x) (rest m)) more
      where
        first : (y : Flush) → y.file ≡ f → Member n (y.tid ∷ tids f rs) → HasTid f n (y ∷ flushes_in rs)
        first y own (inl is) = record { flush = y; there = inl refl; file = own; tid = is }
        first y own (inr m) = behind (Some y) (rest m)

-- where the numbers of all flushes rise, so do those of one file's
rises_more : (n m : ℕ) (xs : List ℕ) → n ≤ m → RisesFrom m xs → RisesFrom n xs
rises_more n m [] low up = tt
rises_more n m (x ∷ xs) low up = (omega (arith, up.0), up.1)

pub tids_rise : (f n : ℕ) (rs : List Record) → RisesFrom n (map (λ x. x.tid) (flushes_in rs)) → RisesFrom n (tids f rs)
tids_rise f n [] up = tt
tids_rise f n (r ∷ rs) up = at (flush_in r.body) up (λ m j. tids_rise f m rs j)
  where
    at : (o : Option Flush) → RisesFrom n (map (λ x. x.tid) (cons_option o (flushes_in rs)))
        → ((m : ℕ) → RisesFrom m (map (λ x. x.tid) (flushes_in rs)) → RisesFrom m (tids f rs)) → RisesFrom n (tid_on f o ++ tids f rs)
    at None more rest = rest n more
    at (Some x) more rest =
        cond_both (x.file == f) (x.tid ∷ []) [] (λ ns. RisesFrom n (ns ++ tids f rs))
        (λ _. (more.0, rest x.tid more.1)) (λ _. rises_more n x.tid (tids f rs) (omega (arith, more.0)) (rest x.tid more.1))

-- The greatest number of a file's

-- a flush among the records has one up to it
pub upto_greatest : (x : Flush) (rs : List Record) → Member x (flushes_in rs) → x.tid ≤ greatest_tid x.file rs
upto_greatest x [] there = absurd there
upto_greatest x (r ∷ rs) there = at (flush_in r.body) there (λ m. upto_greatest x rs m)
  where
    at : (o : Option Flush) → Member x (cons_option o (flushes_in rs)) → (Member x (flushes_in rs) → x.tid ≤ greatest_tid x.file rs)
        → x.tid ≤ max (tid_if x.file o) (greatest_tid x.file rs)
    at None more rest = omega (arith, rest more)
    at (Some y) (inl is) rest =
        let own : tid_if x.file (Some y) ≡ x.tid = ap (λ z. tid_if x.file (Some z)) is ∙ ap (λ b. cond b x.tid 0) (eq-eqb x.file x.file refl) in
        omega (arith, own)
    at (Some y) (inr more) rest = omega (arith, rest more)

-- so has each number of the file's flushes
pub tids_upto : (f : ℕ) (rs : List Record) → Each (λ n. n ≤ greatest_tid f rs) (tids f rs)
tids_upto f rs n there =
    let i : HasTid f n (flushes_in rs) = tid_has f n rs there in
    subst (λ k. k ≤ greatest_tid f rs) i.tid (subst (λ g. i.flush.tid ≤ greatest_tid g rs) i.file (upto_greatest i.flush rs i.there))

-- no flush among the records has a greater one than m
pub greatest_low : (f m : ℕ) (rs : List Record) → Each (λ x. x.tid ≤ m) (flushes_in rs) → greatest_tid f rs ≤ m
greatest_low f m [] low = omega arith
greatest_low f m (r ∷ rs) low = at (flush_in r.body) low (λ j. greatest_low f m rs j)
  where
    at : (o : Option Flush) → Each (λ x. x.tid ≤ m) (cons_option o (flushes_in rs)) → (Each (λ x. x.tid ≤ m) (flushes_in rs) → greatest_tid f rs ≤ m)
        → max (tid_if f o) (greatest_tid f rs) ≤ m
    at None own rest = omega (arith, rest own)
    at (Some x) own rest =
        let tail : greatest_tid f rs ≤ m = rest (each_tail (λ y. y.tid ≤ m) x (flushes_in rs) own) in
        let first : x.tid ≤ m = own x (inl refl) in
        cond_both (x.file == f) x.tid 0 (λ n. max n (greatest_tid f rs) ≤ m) (λ _. omega arith) (λ _. omega arith)

-- a number that is found is among the file's
pub flush_stands : (f n : ℕ) (rs : List Record) → has_flush f n rs ≡ true → Member n (tids f rs)
flush_stands f n rs there =
    let (r, stands, is) = any_some (λ r. is_flush f n (flush_in r.body)) rs there in
    member_flat (λ r. tid_on f (flush_in r.body)) r n rs stands (at (flush_in r.body) is)
  where
    at : (o : Option Flush) → is_flush f n o ≡ true → Member n (tid_on f o)
    at None is = absurd cc
    at (Some x) is =
        let both = and_parts (x.file == f) (x.tid == n) is in
        subst (λ k. Member k (tid_on f (Some x))) (eqb-true x.tid n both.1) (own_tid f x (eqb-true x.file f both.0))
