-- The table's entries against the list of the references.
use Rattle.std.proofs.Common.{◌≡◌, ℕ, ◌<◌, ◌≤◌, ◌==◌, ◌&&◌, Bool, true, false, cond, List, [], ◌∷◌, ◌++◌, Option, Some, None, is_some, length, slice_index, slice_set, replicate, refl, ◌∙◌, get_or-set_same, arith}
use Rattle.std.specs.List.{AllByRecursion}
use Rattle.std.specs.Map.{lookup, remove_entry, values_of}
use Rattle.std.proofs.lemmas.Grind.{common_steps}
use Rattle.indexmap.specs.IndexMap.{IndexMap, insert_entry}
use Rattle.indexmap.proofs.CallerLemmas.{insert_entry-new}
use Rattle.cs_parts.specs.declared.references.Live.{Live}
use Rattle.cs_parts.specs.References.{is_ref, has_ref, ref_named, without_ref}
use Rattle.cs_refs.specs.declared.table.Key.{Key}
use Rattle.cs_refs.specs.Entries.{IsEntry}

-- the key's own test
abbrev pub is_key : ℕ → ℕ → Key → Bool
is_key caller number k = (caller == k.caller) && (number == k.number)

both : (a b c d : ℕ) → ((a == c) && (b == d)) ≡ ((c == a) && (d == b))
both a b c d = grind arith

is_key-named : (begun : List ℕ) (caller number : ℕ) (e : Key × Live) → IsEntry begun e → is_key caller number e.0 ≡ is_ref caller number e.1
is_key-named begun caller number e i = rw (i.caller, i.number) (both caller number e.1.caller e.1.number)

values_of-cond : {K V : Type 0} (b : Bool) (xs ys : List (K × V)) → values_of (cond b xs ys) ≡ cond b (values_of xs) (values_of ys)
values_of-cond true xs ys = refl
values_of-cond false xs ys = refl

pub lookup-named : (begun : List ℕ) (caller number : ℕ) (es : List (Key × Live)) → AllByRecursion (IsEntry begun) es
    → lookup (is_key caller number) es ≡ ref_named caller number (values_of es)
lookup-named begun caller number [] all = refl
lookup-named begun caller number (e ∷ es) all =
    let here = is_key-named begun caller number e all.0 in
    let rest = lookup-named begun caller number es all.1 in
    λ j. cond (here j) (Some e.1) (rest j)

pub values_of-without : (begun : List ℕ) (caller number : ℕ) (es : List (Key × Live)) → AllByRecursion (IsEntry begun) es
    → values_of (remove_entry (is_key caller number) es) ≡ without_ref caller number (values_of es)
values_of-without begun caller number [] all = refl
values_of-without begun caller number (e ∷ es) all =
    let here = is_key-named begun caller number e all.0 in
    let rest = values_of-without begun caller number es all.1 in
    values_of-cond (is_key caller number e.0) es (e ∷ remove_entry (is_key caller number) es) ∙ (λ j. cond (here j) (values_of es) (e.1 ∷ rest j))

-- a number that was not drawn is no reference's
undrawn : (begun : List ℕ) (a b c d : ℕ) → d ≤ slice_index begun c → slice_index begun a < b → ((a == c) && (b == d)) ≡ false
undrawn begun a b c d drawn above = grind arith

lookup-undrawn : (begun : List ℕ) (caller number : ℕ) (es : List (Key × Live)) → AllByRecursion (IsEntry begun) es
    → slice_index begun caller < number → lookup (is_key caller number) es ≡ None
lookup-undrawn begun caller number [] all above = refl
lookup-undrawn begun caller number (e ∷ es) all above =
    let other : is_key caller number e.0 ≡ false = rw (all.0.caller, all.0.number) (undrawn begun caller number e.1.caller e.1.number all.0.drawn above) in
    let rest = lookup-undrawn begun caller number es all.1 above in
    λ j. cond (other j) (Some e.1) (rest j)

-- so a reference of that number goes last
pub insert_entry-undrawn : {S : Type 0} (begun : List ℕ) (m : IndexMap Key Live S) (k : Key) (r : Live) → AllByRecursion (IsEntry begun) m.entries
    → slice_index begun k.caller < k.number
    → insert_entry (λ i j. is_key i.caller i.number j) m.entries k r ≡ m.entries ++ (k, r) ∷ []
insert_entry-undrawn begun m k r all above =
    insert_entry-new (λ i j. is_key i.caller i.number j) m k r (lookup-undrawn begun k.caller k.number m.entries all above)

-- a greater count forgets no number
drawn_still : (begun : List ℕ) (caller number i : ℕ) → caller < length begun → slice_index begun caller < number
    → slice_index begun i ≤ slice_index (slice_set begun caller number) i
drawn_still begun caller number i inside above = grind (arith, common_steps)

module _ (begun : List ℕ) (k : Key) (r : Live) (caller : k.caller ≡ r.caller) (number : k.number ≡ r.number)
    (inside : r.caller < length begun) (above : slice_index begun r.caller < r.number) where
  pub each-begun : (es : List (Key × Live)) → AllByRecursion (IsEntry begun) es
      → AllByRecursion (IsEntry (slice_set begun r.caller r.number)) (es ++ (k, r) ∷ [])
  each-begun [] all = (record { caller = caller; number = number; drawn = rw (get_or-set_same begun r.caller r.number 0 inside) (omega arith) }, tt)
  each-begun (e ∷ es) all =
      let drawn : e.1.number ≤ slice_index (slice_set begun r.caller r.number) e.1.caller =
      omega (arith, drawn_still begun r.caller r.number e.1.caller inside above, all.0.drawn) in
      (record { caller = all.0.caller; number = all.0.number; drawn = drawn }, each-begun es all.1)

all-cond : (P : Key × Live → Type 0) (b : Bool) (xs ys : List (Key × Live)) → AllByRecursion P xs → AllByRecursion P ys → AllByRecursion P (cond b xs ys)
all-cond P true xs ys p q = p
all-cond P false xs ys p q = q

-- what stays after an entry is taken out
pub each-without : (begun : List ℕ) (test : Key → Bool) (es : List (Key × Live)) → AllByRecursion (IsEntry begun) es
    → AllByRecursion (IsEntry begun) (remove_entry test es)
each-without begun test [] all = tt
each-without begun test (e ∷ es) all =
    all-cond (IsEntry begun) (test e.0) es (e ∷ remove_entry test es) all.1 (all.0, each-without begun test es all.1)

-- at first no caller has begun a reference
pub zeros : (n i : ℕ) → slice_index (replicate n 0) i ≡ 0
zeros n i = grind (arith, common_steps)

-- a name finds a reference exactly where one has it
pub is_some-ref_named : (caller number : ℕ) (rs : List Live) → is_some (ref_named caller number rs) ≡ has_ref caller number rs
is_some-ref_named caller number [] = refl
is_some-ref_named caller number (r ∷ rs) =
    is_some-cond (is_ref caller number r) (Some r) (ref_named caller number rs) ∙ (λ j. cond (is_ref caller number r) true (is_some-ref_named caller number rs j))
  where
    is_some-cond : (b : Bool) (x y : Option Live) → is_some (cond b x y) ≡ cond b (is_some x) (is_some y)
    is_some-cond true x y = refl
    is_some-cond false x y = refl
