-- How many writers a file has, as references begin and end.
use Rattle.std.proofs.Common.{◌≡◌, ◌∙◌, refl, sym, ap, subst, ℕ, ◌+◌, ◌==◌, not, Bool}
use Rattle.std.proofs.Common.{true, false, cond, List, [], ◌∷◌, ◌++◌, Some, filter, length, nat_lt, arith}
use Rattle.std.proofs.lemmas.Bool.Decides.{nat_tests}
use Rattle.std.proofs.lemmas.List.Sums.{length-filter}
use Rattle.std.specs.List.{count_by}
use Rattle.cs_parts.specs.declared.references.Live.{Live}
use Rattle.cs_parts.specs.References.{is_ref, is_writer_of, ref_named, without_ref}
use Rattle.cs_laws.specs.declared.events.RefName.{RefName}
use Rattle.cs_laws.specs.declared.events.RefName.TheVariants as names
use Rattle.cs_laws.specs.CapSnaps.{has_writer}
use Rattle.cs_laws.specs.References.{can_end, named, without_named}
use Rattle.cs_theorems.proofs.Owing.{writer_counted}
use Rattle.cs_theorems.proofs.QueueAnswers.{count_none}
use Rattle.cs_files.specs.Rows.{writers_of}

-- as the first item is counted or not
first_counts : {X : Type 0} (p : X → Bool) (x : X) (xs : List X) → count_by p (x ∷ xs) ≡ cond (p x) 1 0 + count_by p xs
first_counts p x xs = sym (length-filter p (x ∷ xs)) ∙ (at (p x) ∙ ap (λ n. cond (p x) 1 0 + n) (length-filter p xs))
  where
    at : (b : Bool) → length (cond b (x ∷ filter p xs) (filter p xs)) ≡ cond b 1 0 + length (filter p xs)
    at true = omega arith
    at false = omega arith

-- one more reference
pub writers_begin : (g : ℕ) (rs : List Live) (n : Live) → writers_of g (rs ++ n ∷ []) ≡ writers_of g rs + cond (is_writer_of g n) 1 0
writers_begin g [] n = first_counts (is_writer_of g) n [] ∙ at (is_writer_of g n)
  where
    at : (b : Bool) → cond b 1 0 + writers_of g [] ≡ writers_of g [] + cond b 1 0
    at true = refl
    at false = refl
writers_begin g (r ∷ rs) n =
    let w : Live → Bool = is_writer_of g in
    omega (arith, first_counts w r rs, first_counts w r (rs ++ n ∷ []), writers_begin g rs n)

-- one reference less
writers_without : (g c n : ℕ) (r : Live) (rs : List Live) → ref_named c n rs ≡ Some r
    → writers_of g rs ≡ writers_of g (without_ref c n rs) + cond (is_writer_of g r) 1 0
writers_without g c n r [] is = absurd cc
writers_without g c n r (y ∷ ys) is = at (is_ref c n y) is (λ e. writers_without g c n r ys e)
  where
    w : Live → Bool
    w = is_writer_of g

    at : (b : Bool) → cond b (Some y) (ref_named c n ys) ≡ Some r
        → (ref_named c n ys ≡ Some r → writers_of g ys ≡ writers_of g (without_ref c n ys) + cond (is_writer_of g r) 1 0)
        → writers_of g (y ∷ ys) ≡ writers_of g (cond b ys (y ∷ without_ref c n ys)) + cond (is_writer_of g r) 1 0
    at true e rest =
        let same : y ≡ r = cc in
        subst (λ z. writers_of g (y ∷ ys) ≡ writers_of g ys + cond (is_writer_of g z) 1 0) same (omega (arith, first_counts w y ys))
    at false e rest = omega (arith, first_counts w y ys, first_counts w y (without_ref c n ys), rest e)

pub writers_end : (g c : ℕ) (name : RefName) (r : Live) (rs : List Live) → can_end c name rs ≡ true → named c name rs ≡ Some r
    → writers_of g rs ≡ writers_of g (without_named c name rs) + cond (is_writer_of g r) 1 0
writers_end g c (names.Own n) r rs can is = writers_without g c n r rs is
writers_end g c (names.Kept n) r rs can is = absurd cc

-- the last of them ends
pub last_ends : (f : ℕ) (rs left : List Live) → writers_of f rs ≡ writers_of f left + 1 → not (has_writer f left) ≡ (writers_of f rs == 1)
last_ends f rs left more = sym (count_none f left) ∙ same (writers_of f rs) (writers_of f left) more
  where
    same : (m n : ℕ) → m ≡ n + 1 → (n == 0) ≡ (m == 1)
    same m n is = grind (arith, nat_tests, is)

-- as many write as before
pub writers_stay : (f : ℕ) (rs left : List Live) → writers_of f rs ≡ writers_of f left → has_writer f left ≡ has_writer f rs
writers_stay f rs left same = sym (writer_counted f left) ∙ (ap (λ n. nat_lt 0 n) (sym same) ∙ writer_counted f rs)
