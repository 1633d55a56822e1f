-- The tables as entries come and go.
use Rattle.std.proofs.Common.{
  ◌≡◌,
  ℕ,
  ◌+◌,
  ◌<◌,
  ◌≤◌,
  ◌==◌,
  ◌&&◌,
  ◌||◌,
  not,
  Bool,
  true,
  false,
  cond,
  List,
  [],
  ◌∷◌,
  ◌++◌,
  Some,
  None,
  unwrap_or,
  count_by,
  nat_le,
  nat_lt,
  refl,
  sym,
  subst,
  ◌∙◌,
  true≢false,
  arith,
}
use Rattle.std.proofs.lemmas.Bool.{eqb-true}
use Rattle.std.proofs.lemmas.Bool.Decides.{nat_tests}
use Rattle.std.proofs.lemmas.List.Folds.{list_any-append}
use Rattle.std.proofs.lemmas.List.Sums.{sum_by-cons}
use Rattle.std.proofs.lemmas.Map.Entries.{sum_by-insert_entry, sum_by-remove_entry}
use Rattle.std.proofs.lemmas.Map.Views.{All-keys-insert_entry, All-map-remove_entry}
use Rattle.std.specs.BTreeMap.{insert_entry, is_at}
use Rattle.std.specs.Cmp.{second_so}
use Rattle.std.specs.List.{list_any, sum_by}
use Rattle.std.specs.List.Sorted.{IsStrictlySortedBy}
use Rattle.std.specs.Map.{keys_of, lookup, remove_entry, values_of}
use Rattle.std.specs.Option.{option_map}
use Rattle.cs_ids.specs.Names.{is_name}
use Rattle.cs_ids.specs.Ranges.{some_in}
use Rattle.cs_laws.specs.Namespace.{Named, Names, first_made, has_dir, is_dir_entry}
use Rattle.cs_names.specs.declared.table.Entry.{Entry}
use Rattle.cs_names.specs.declared.table.EntryKey.{EntryKey}
use Rattle.cs_names.specs.Table.{IsTable, is_among, key_cmp, named_all, named_of, places_of}
use Rattle.cs_names.proofs.Entries.{key_cmp_total, same_number}

-- How often a directory has a name

abbrev one_at : ℕ → Entry → ℕ
one_at d v = cond (v.is_dir && (v.ino == d)) 1 0

counted : (d : ℕ) (es : List (EntryKey × Entry)) → count_by (is_dir_entry d) (named_all es) ≡ sum_by (one_at d) (values_of es)
counted d [] = refl
counted d (e ∷ es) =
    sum_by-cons (λ x. cond (is_dir_entry d x) 1 0) (named_of e) (named_all es) ∙ (λ j. one_at d e.1 + counted d es j)
    ∙ sym (sum_by-cons (one_at d) e.1 (values_of es))

any_counted : (p : Named → Bool) (ns : List Named) → list_any p ns ≡ nat_lt 0 (count_by p ns)
any_counted p [] = refl
any_counted p (n ∷ ns) =
    (λ j. p n || any_counted p ns j) ∙ more (p n) (count_by p ns) ∙ (λ j. nat_lt 0 (sym (sum_by-cons (λ x. cond (p x) 1 0) n ns) j))
  where
    more : (b : Bool) (c : ℕ) → (b || nat_lt 0 c) ≡ nat_lt 0 (cond b 1 0 + c)
    more true c = grind (arith, nat_tests)
    more false c = grind (arith, nat_tests)

-- a directory stands exactly where it is among the standing ones
pub stands : (d : ℕ) (es : List (EntryKey × Entry)) (dirs : List ℕ) → places_of d (named_all es) ≡ cond (is_among d dirs) 1 0
    → ((d == 1) || list_any (is_dir_entry d) (named_all es)) ≡ is_among d dirs
stands d es dirs places = (λ j. (d == 1) || any_counted (is_dir_entry d) (named_all es) j)
    ∙ by (d == 1) (is_among d dirs) (count_by (is_dir_entry d) (named_all es)) places
  where
    by : (root among : Bool) (c : ℕ) → cond root 1 0 + c ≡ cond among 1 0 → (root || nat_lt 0 c) ≡ among
    by true true c is = refl
    by true false c is = absurd (omega arith)
    by false true c is = grind (arith, nat_tests)
    by false false c is = grind (arith, nat_tests)

pub among_files : (f : ℕ) (files : List ℕ) → list_any (λ g. g == f) files ≡ is_among f files
among_files f [] = refl
among_files f (g ∷ gs) = λ j. same_number g f j || among_files f gs j

-- what contracts see of the tables
abbrev pub shown : List (EntryKey × Entry) → List ℕ → ℕ → Names
shown es files made = record { entries = named_all es; files = files; made = made }

pub has_dir-table : {es : List (EntryKey × Entry)} {dirs files : List ℕ} {made : ℕ} → IsTable es dirs files made → (d : ℕ)
    → has_dir (shown es files made) d ≡ is_among d dirs
has_dir-table {es} {dirs} t d = stands d es dirs (t.standing d)

-- the number of an inode that there is
pub drawn : (n i : ℕ) → some_in 1 99999 n ≡ Some i → i ≡ n
drawn n i is = by (nat_le 1 n && nat_le n 99999) is
  where
    by : (b : Bool) → cond b (Some n) None ≡ Some i → i ≡ n
    by true is = cc
    by false is = cc

-- A new entry

or_false : (b : Bool) → (b || false) ≡ b
or_false true = refl
or_false false = refl

among_more : (d i : ℕ) (is : List ℕ) → is_among d (is ++ i ∷ []) ≡ (is_among d is || (i == d))
among_more d i is = list_any-append (λ j. d == j) is (i ∷ []) ∙ (λ j. is_among d is || (or_false (d == i) ∙ same_number d i) j)

-- where an inode goes to the one list, or to the other
among_then : (b : Bool) (d i : ℕ) (is : List ℕ) → is_among d (cond b (is ++ i ∷ []) is) ≡ (is_among d is || (b && (i == d)))
among_then true d i is = among_more d i is
among_then false d i is = sym (or_false (is_among d is))

among_else : (b : Bool) (d i : ℕ) (is : List ℕ) → is_among d (cond b is (is ++ i ∷ [])) ≡ (is_among d is || (not b && (i == d)))
among_else true d i is = sym (or_false (is_among d is))
among_else false d i is = among_more d i is

outside : (b : Bool) (d i : ℕ) (among : Bool) → among ≡ false → i < d → (among || (b && (i == d))) ≡ false
outside b d i among is l = grind (arith, nat_tests)

-- one name more, and one place more
stand_more : (root b among : Bool) (old new : ℕ) → new + 0 ≡ old + cond b 1 0 → cond root 1 0 + old ≡ cond among 1 0 → (b ≡ true
    → among ≡ false)
    → cond root 1 0 + new ≡ cond (among || b) 1 0
stand_more root true true old new more all fresh = absurd (true≢false (fresh refl))
stand_more true true false old new more all fresh = absurd (omega arith)
stand_more false true false old new more all fresh = omega arith
stand_more true false true old new more all fresh = omega arith
stand_more false false true old new more all fresh = omega arith
stand_more true false false old new more all fresh = absurd (omega arith)
stand_more false false false old new more all fresh = omega arith

module _ {es : List (EntryKey × Entry)} {dirs files : List ℕ} {made : ℕ} (t : IsTable es dirs files made) where
  pub entered : (k : EntryKey) (v : Entry) (made' : ℕ) → lookup (is_at (key_cmp k)) es ≡ None → is_name k.name.items ≡ true
      → is_among v.ino dirs ≡ false
      → v.ino < first_made + made' → made ≤ made' → IsStrictlySortedBy key_cmp (keys_of (insert_entry key_cmp es k v))
      → IsTable (insert_entry key_cmp es k v) (cond v.is_dir (dirs ++ v.ino ∷ []) dirs) (cond v.is_dir files
      (files ++ v.ino ∷ [])) made'
  entered k v made' none name fresh below more sorted = record {
    ordered = sorted;
    named = All-keys-insert_entry key_cmp k v (λ q. is_name q.name.items ≡ true) es t.named name;
    standing = λ d. standing d;
    new_dir = λ d above. among_then v.is_dir d v.ino dirs ∙ outside v.is_dir d v.ino (is_among d dirs) (t.new_dir d (omega arith))
        (omega arith);
    new_file = λ f above. among_else v.is_dir f v.ino files ∙ outside (not v.is_dir) f v.ino (is_among f files) (t.new_file f
        (omega arith)) (omega arith);
  }
    where
      not_yet : (d : ℕ) (b : Bool) → (b && (v.ino == d)) ≡ true → is_among d dirs ≡ false
      not_yet d b is = subst (λ i. is_among i dirs ≡ false) (eqb-true v.ino d (second_so b (v.ino == d) is)) fresh

      standing : (d : ℕ) → places_of d (named_all (insert_entry key_cmp es k v))
          ≡ cond (is_among d (cond v.is_dir (dirs ++ v.ino ∷ []) dirs)) 1 0
      standing d =
          let sum : sum_by (one_at d) (values_of (insert_entry key_cmp es k v)) + 0 ≡ sum_by (one_at d) (values_of es) + one_at d v =
          subst (λ o. sum_by (one_at d) (values_of (insert_entry key_cmp es k v)) + unwrap_or (option_map (one_at d) o) 0
          ≡ sum_by (one_at d) (values_of es) + one_at d v) none
          (sum_by-insert_entry (one_at d) key_cmp_total es k v t.ordered) in
          let more : count_by (is_dir_entry d) (named_all (insert_entry key_cmp es k v)) + 0
          ≡ count_by (is_dir_entry d) (named_all es) + one_at d v =
          rw (counted d es, counted d (insert_entry key_cmp es k v)) sum in
          stand_more (d == 1) (v.is_dir && (v.ino == d)) (is_among d dirs) _ _ more (t.standing d) (not_yet d v.is_dir)
          ∙ (λ j. cond (sym (among_then v.is_dir d v.ino dirs) j) 1 0)

  -- An entry less

  -- one name less, and one place less
  stand_less : (root b among : Bool) (old new : ℕ) → new + cond b 1 0 ≡ old → cond root 1 0 + old ≡ cond among 1 0
      → cond root 1 0 + new ≡ cond (cond b false among) 1 0
  stand_less true true true old new less all = absurd (omega arith)
  stand_less true true false old new less all = absurd (omega arith)
  stand_less false true true old new less all = omega arith
  stand_less false true false old new less all = absurd (omega arith)
  stand_less root false among old new less all = let same : new ≡ old = omega arith in rw same all

  pub left : (k : EntryKey) (v : Entry) (later : List ℕ) → lookup (is_at (key_cmp k)) es ≡ Some v → ((d : ℕ)
      → is_among d later ≡ cond (v.is_dir && (v.ino == d)) false (is_among d dirs))
      → IsStrictlySortedBy key_cmp (keys_of (remove_entry (is_at (key_cmp k)) es))
      → IsTable (remove_entry (is_at (key_cmp k)) es) later files made
  left k v later there out sorted = record {
    ordered = sorted;
    named = All-map-remove_entry (is_at (key_cmp k)) (λ e. e.0) (λ q. is_name q.name.items ≡ true) es t.named;
    standing = λ d. standing d;
    new_dir = λ d above. out d ∙ none_of (v.is_dir && (v.ino == d)) (is_among d dirs) (t.new_dir d above);
    new_file = t.new_file;
  }
    where
      none_of : (b among : Bool) → among ≡ false → cond b false among ≡ false
      none_of true among is = refl
      none_of false among is = is

      standing : (d : ℕ) → places_of d (named_all (remove_entry (is_at (key_cmp k)) es)) ≡ cond (is_among d later) 1 0
      standing d =
          let sum : sum_by (one_at d) (values_of (remove_entry (is_at (key_cmp k)) es)) + one_at d v
          ≡ sum_by (one_at d) (values_of es) =
          subst (λ o. sum_by (one_at d) (values_of (remove_entry (is_at (key_cmp k)) es)) + unwrap_or (option_map (one_at d) o) 0
          ≡ sum_by (one_at d) (values_of es)) there
          (sum_by-remove_entry (one_at d) (is_at (key_cmp k)) es) in
          let less : count_by (is_dir_entry d) (named_all (remove_entry (is_at (key_cmp k)) es)) + one_at d v
          ≡ count_by (is_dir_entry d) (named_all es) =
          rw (counted d es, counted d (remove_entry (is_at (key_cmp k)) es)) sum in
          stand_less (d == 1) (v.is_dir && (v.ino == d)) (is_among d dirs) _ _ less (t.standing d) ∙ (λ j. cond (sym (out d) j) 1 0)

  -- An entry under another name

  pub renamed : (k new : EntryKey) (v : Entry) → lookup (is_at (key_cmp new)) es ≡ None → is_name new.name.items ≡ true
      → lookup (is_at (key_cmp k)) (insert_entry key_cmp es new v) ≡ Some v
      → IsStrictlySortedBy key_cmp (keys_of (remove_entry (is_at (key_cmp k)) (insert_entry key_cmp es new v)))
      → IsTable (remove_entry (is_at (key_cmp k)) (insert_entry key_cmp es new v)) dirs files made
  renamed k new v free name there sorted = record {
    ordered = sorted;
    named = All-map-remove_entry (is_at (key_cmp k)) (λ e. e.0) (λ q. is_name q.name.items ≡ true) (insert_entry key_cmp es new v)
        (All-keys-insert_entry key_cmp new v (λ q. is_name q.name.items ≡ true) es t.named name);
    standing = λ d. (λ j. cond (d == 1) 1 0 + same d j) ∙ t.standing d;
    new_dir = t.new_dir;
    new_file = t.new_file;
  }
    where
      same : (d : ℕ) → count_by (is_dir_entry d) (named_all (remove_entry (is_at (key_cmp k)) (insert_entry key_cmp es new v)))
          ≡ count_by (is_dir_entry d) (named_all es)
      same d =
          let more : sum_by (one_at d) (values_of (insert_entry key_cmp es new v)) + 0 ≡ sum_by (one_at d) (values_of es) + one_at d v =
          subst (λ o. sum_by (one_at d) (values_of (insert_entry key_cmp es new v)) + unwrap_or (option_map (one_at d) o) 0
          ≡ sum_by (one_at d) (values_of es) + one_at d v) free
          (sum_by-insert_entry (one_at d) key_cmp_total es new v t.ordered) in
          let less : sum_by (one_at d) (values_of (remove_entry (is_at (key_cmp k)) (insert_entry key_cmp es new v))) + one_at d v
          ≡ sum_by (one_at d) (values_of (insert_entry key_cmp es new v)) =
          subst (λ o. sum_by (one_at d) (values_of (remove_entry (is_at (key_cmp k)) (insert_entry key_cmp es new v))) + unwrap_or
          (option_map (one_at d) o) 0 ≡ sum_by (one_at d) (values_of (insert_entry key_cmp es new v))) there
          (sum_by-remove_entry (one_at d) (is_at (key_cmp k)) (insert_entry key_cmp es new v)) in
          rw (counted d es, counted d (remove_entry (is_at (key_cmp k)) (insert_entry key_cmp es new v))) (omega arith)
