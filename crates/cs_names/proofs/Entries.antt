-- The table's entries against the list of the entries with names.
use Rattle.std.proofs.Common.{
  ◌≡◌,
  ℕ,
  ◌+◌,
  ◌==◌,
  ◌&&◌,
  ◌||◌,
  not,
  Bool,
  true,
  false,
  cond,
  List,
  [],
  ◌∷◌,
  Option,
  Some,
  None,
  is_some,
  filter,
  find,
  nat_lt,
  refl,
  sym,
  ap,
  ◌∙◌,
  true≢false,
  arith,
}
use Rattle.std.proofs.lemmas.Bool.{eqb-true}
use Rattle.std.proofs.lemmas.Bool.Decides.{nat_tests}
use Rattle.std.specs.declared.ops.Bound.TheVariants.{Included, Excluded}
use Rattle.std.proofs.lemmas.Cmp.{nat_cmp_total, nat_list_cmp_total}
use Rattle.std.proofs.lemmas.Map.Keys.{sorted_head, sorted_tail}
use Rattle.std.proofs.lemmas.Map.Text.{is_eq-slice_cmp}
use Rattle.std.proofs.lemmas.Slice.Eq.{bytes_eq-Decides}
use Rattle.std.specs.BTreeMap.{insert_entry, is_at}
use Rattle.std.specs.BTreeMap.Range.{entries_between}
use Rattle.std.specs.Cmp.{IsTotalOrder, Equal-is, both_tied, first_so, on_total, second_so, then_total, unsigned_ties}
use Rattle.std.specs.Cmp.Lexicographic.{nat_list_eq_equiv, slice_cmp}
use Rattle.std.specs.List.{AllByRecursion, list_any}
use Rattle.std.specs.List.Sorted.{IsStrictlySortedBy}
use Rattle.std.specs.Map.{keys_of, lookup, remove_entry}
use Rattle.std.specs.Map.Iter.{TakesFirst}
use Rattle.std.specs.Option.{option_map}
use Rattle.std.specs.Ordering.{is_eq, is_le, is_lt, match_ordering, nat_cmp, ordering_then}
use Rattle.std.specs.Str.{bytes_eq}
use Rattle.std.specs.declared.cmp.Ordering.{Ordering}
use Rattle.std.specs.declared.cmp.Ordering.TheVariants.{Less, Equal, Greater}
use Rattle.cs_laws.specs.Namespace.{Named, is_ahead, is_entry, with_entry, without_entry}
use Rattle.cs_names.specs.declared.table.Entry.{Entry}
use Rattle.cs_names.specs.declared.table.EntryKey.{EntryKey}
use Rattle.cs_names.specs.Table.{entries_in, has_entries, key_cmp, named_all, named_of}

-- The order of the keys

pub key_cmp_total : IsTotalOrder key_cmp
key_cmp_total = then_total (on_total (λ (k : EntryKey). k.dir) nat_cmp_total) (on_total (λ
    (k : EntryKey). k.name.items) nat_list_cmp_total)

pub same_number : (a b : ℕ) → (a == b) ≡ (b == a)
same_number a b = grind arith

-- an entry's key is found exactly where it has the name in the directory
pub is_entry-key : (k : EntryKey) (e : EntryKey × Entry) → is_entry k.dir k.name.items (named_of e) ≡ is_at (key_cmp k) e.0
is_entry-key k e =
    (λ j. same_number e.0.dir k.dir j && nat_list_eq_equiv.symm e.0.name.items k.name.items j)
    ∙ both_tied (k.dir == e.0.dir) (bytes_eq k.name.items e.0.name.items) (nat_cmp k.dir e.0.dir)
    (slice_cmp nat_cmp k.name.items e.0.name.items)
    (unsigned_ties k.dir e.0.dir) (sym (is_eq-slice_cmp k.name.items e.0.name.items))

tied_dir : (k : EntryKey) (e : EntryKey × Entry) → is_entry k.dir k.name.items (named_of e) ≡ true → e.0.dir ≡ k.dir
tied_dir k e is = eqb-true e.0.dir k.dir (first_so (e.0.dir == k.dir) (bytes_eq e.0.name.items k.name.items) is)

tied_name : (k : EntryKey) (e : EntryKey × Entry) → is_entry k.dir k.name.items (named_of e) ≡ true → e.0.name.items ≡ k.name.items
tied_name k e is = (bytes_eq-Decides e.0.name.items k.name.items).0 (second_so (e.0.dir == k.dir)
    (bytes_eq e.0.name.items k.name.items) is)

ahead_by : (below same : Bool) (c : Ordering) → (below || (same && is_lt c))
    ≡ is_lt (ordering_then (cond below Less (cond same Equal Greater)) c)
ahead_by true same c = refl
ahead_by false true c = refl
ahead_by false false c = refl

-- the order of the keys is that of the entries
is_ahead-key : (x e : EntryKey × Entry) → is_ahead (named_of x) (named_of e) ≡ is_lt (key_cmp x.0 e.0)
is_ahead-key x e = ahead_by (nat_lt x.0.dir e.0.dir) (x.0.dir == e.0.dir) (slice_cmp nat_cmp x.0.name.items e.0.name.items)

-- Look-ups

module _ (k : EntryKey) where
  -- the entry of the key with this value
  abbrev pub named_at : Entry → Named
  named_at v = named_of (k, v)

  found_here : (e : EntryKey × Entry) (b : Bool) (r : Option Named) (s : Option Entry) → is_entry k.dir k.name.items (named_of e) ≡ b
      → r ≡ option_map named_at s → cond b (Some (named_of e)) r ≡ option_map named_at (cond b (Some e.1) s)
  found_here e true r s is rest =
      λ j. Some (record { dir = tied_dir k e is j; name = tied_name k e is j; ino = e.1.ino; is_dir = e.1.is_dir })
  found_here e false r s is rest = rest

  pub find-lookup : (es : List (EntryKey × Entry)) → find (is_entry k.dir k.name.items) (named_all es)
      ≡ option_map named_at (lookup (is_at (key_cmp k)) es)
  find-lookup [] = refl
  find-lookup (e ∷ es) =
      found_here e (is_entry k.dir k.name.items (named_of e)) (find (is_entry k.dir k.name.items) (named_all es)) (lookup (is_at
      (key_cmp k)) es) refl (find-lookup es)
      ∙ (λ j. option_map named_at (cond (is_entry-key k e j) (Some e.1) (lookup (is_at (key_cmp k)) es)))

  any_here : (b : Bool) (r : Bool) (x : Entry) (s : Option Entry) → r ≡ is_some s → (b || r) ≡ is_some (cond b (Some x) s)
  any_here true r x s rest = refl
  any_here false r x s rest = rest

  pub any-lookup : (es : List (EntryKey × Entry)) → list_any (is_entry k.dir k.name.items) (named_all es)
      ≡ is_some (lookup (is_at (key_cmp k)) es)
  any-lookup [] = refl
  any-lookup (e ∷ es) =
      (λ j. is_entry-key k e j || list_any (is_entry k.dir k.name.items) (named_all es))
      ∙ any_here (is_at (key_cmp k) e.0) (list_any (is_entry k.dir k.name.items) (named_all es)) e.1 (lookup (is_at (key_cmp k)) es)
      (any-lookup es)

  -- A new entry

  put_here : (v : Entry) (o : Ordering) (e : EntryKey × Entry) (es later : List (EntryKey × Entry)) (s : Option Entry)
      → cond (is_eq o) (Some e.1) s ≡ None
      → (s ≡ None → named_all later ≡ with_entry (named_at v) (named_all es))
      → named_all (match_ordering o ((k, v) ∷ e ∷ es) ((e.0, v) ∷ es) (e ∷ later))
      ≡ cond (is_lt o) (named_at v ∷ named_all (e ∷ es)) (named_of e ∷ with_entry (named_at v) (named_all es))
  put_here v Less e es later s none rest = refl
  put_here v Equal e es later s none rest = absurd (true≢false (ap is_some none))
  put_here v Greater e es later s none rest = λ j. named_of e ∷ rest none j

  -- an entry under a new key goes to its place
  pub insert-with : (v : Entry) (es : List (EntryKey × Entry)) → lookup (is_at (key_cmp k)) es ≡ None
      → named_all (insert_entry key_cmp es k v) ≡ with_entry (named_at v) (named_all es)
  insert-with v [] none = refl
  insert-with v (e ∷ es) none =
      put_here v (key_cmp k e.0) e es (insert_entry key_cmp es k v) (lookup (is_at (key_cmp k)) es) none (insert-with v es)
      ∙ (λ j. cond (sym (is_ahead-key (k, v) e) j) (named_at v ∷ named_all (e ∷ es)) (named_of e ∷ with_entry (named_at v)
      (named_all es)))

  -- An entry less

  -- a key behind one that is tied with this one isn't tied with it
  untied : (x y : EntryKey) → key_cmp k x ≡ Equal → key_cmp x y ≡ Less → is_at (key_cmp k) y ≡ false
  untied x y tied less = ap is_eq (key_cmp_total.congr k x y tied ∙ less)

  all_stay : (x : EntryKey) (es : List (EntryKey × Entry)) → key_cmp k x ≡ Equal → AllByRecursion (λ y. key_cmp x y
      ≡ Less) (keys_of es) → without_entry k.dir k.name.items (named_all es) ≡ named_all es
  all_stay x [] tied all = refl
  all_stay x (e ∷ es) tied all =
      let other = is_entry-key k e ∙ untied x e.0 tied all.0 in
      λ j. cond (not (other j)) (named_of e ∷ all_stay x es tied all.1 j) (all_stay x es tied all.1 j)

  out_here : (o : Ordering) (e : EntryKey × Entry) (es later : List (EntryKey × Entry)) (left : List Named) → key_cmp k e.0 ≡ o
      → (o ≡ Equal → left ≡ named_all es) → named_all later ≡ left
      → named_all (cond (is_eq o) es (e ∷ later)) ≡ cond (not (is_eq o)) (named_of e ∷ left) left
  out_here Less e es later left is same rest = λ j. named_of e ∷ rest j
  out_here Equal e es later left is same rest = sym (same refl)
  out_here Greater e es later left is same rest = λ j. named_of e ∷ rest j

  pub remove-without : (es : List (EntryKey × Entry)) → IsStrictlySortedBy key_cmp (keys_of es)
      → named_all (remove_entry (is_at (key_cmp k)) es) ≡ without_entry k.dir k.name.items (named_all es)
  remove-without [] sorted = refl
  remove-without (e ∷ es) sorted =
      out_here (key_cmp k e.0) e es (remove_entry (is_at (key_cmp k)) es) (without_entry k.dir k.name.items (named_all es)) refl
      (λ tied. all_stay e.0 es tied (sorted_head key_cmp e.0 (keys_of es) sorted)) (remove-without es (sorted_tail key_cmp e.0
      (keys_of es) sorted))
      ∙ (λ j. cond (not (sym (is_entry-key k e) j)) (named_of e ∷ without_entry k.dir k.name.items (named_all es))
      (without_entry k.dir k.name.items (named_all es)))

  -- A new entry and an entry less, in either order

  -- a new entry that is ahead of the first one is ahead of all
  first_of_all : (x e : EntryKey × Entry) (es : List (EntryKey × Entry)) → is_lt (key_cmp x.0 e.0) ≡ true
      → AllByRecursion (λ y. key_cmp e.0 y ≡ Less) (keys_of es)
      → with_entry (named_of x) (named_all es) ≡ named_of x ∷ named_all es
  first_of_all x e [] ahead all = refl
  first_of_all x e (y ∷ ys) ahead all =
      let less : key_cmp x.0 y.0 ≡ Less = key_cmp_total.trans x.0 e.0 y.0 (is_less (key_cmp x.0 e.0) ahead) all.0 in
      let goes = is_ahead-key x y ∙ ap is_lt less in
      λ j. cond (goes j) (named_of x ∷ named_all (y ∷ ys)) (named_of y ∷ with_entry (named_of x) (named_all ys))
    where
      is_less : (o : Ordering) → is_lt o ≡ true → o ≡ Less
      is_less Less is = refl
      is_less Equal is = absurd (true≢false (sym is))
      is_less Greater is = absurd (true≢false (sym is))

  -- the list without the entry of the key
  abbrev less : List Named → List Named
  less ns = without_entry k.dir k.name.items ns

  swap_here : (x e : EntryKey × Entry) (out ahead : Bool) (ns with_x with_x_less : List Named)
      → is_entry k.dir k.name.items (named_of x) ≡ false → is_entry k.dir k.name.items (named_of e) ≡ out
      → with_x_less ≡ less with_x → (out ≡ true → ahead ≡ true → with_x_less ≡ named_of x ∷ less ns)
      → cond out with_x_less (cond ahead (named_of x ∷ named_of e ∷ less ns) (named_of e ∷ with_x_less))
      ≡ less (cond ahead (named_of x ∷ named_of e ∷ ns) (named_of e ∷ with_x))
  swap_here x e true true ns with_x with_x_less other is rest first =
      first refl refl ∙ (λ j. cond (not (sym other j)) (named_of x ∷ cond (not (sym is j)) (named_of e ∷ less ns) (less ns)) (cond
      (not (sym is j)) (named_of e ∷ less ns) (less ns)))
  swap_here x e true false ns with_x with_x_less other is rest first = rest
      ∙ (λ j. cond (not (sym is j)) (named_of e ∷ less with_x) (less with_x))
  swap_here x e false true ns with_x with_x_less other is rest first =
      λ j. cond (not (sym other j)) (named_of x ∷ cond (not (sym is j)) (named_of e ∷ less ns) (less ns)) (cond (not (sym is j))
      (named_of e ∷ less ns) (less ns))
  swap_here x e false false ns with_x with_x_less other is rest first =
      (λ j. named_of e ∷ rest j) ∙ (λ j. cond (not (sym is j)) (named_of e ∷ less with_x) (less with_x))

  pub with-without : (x : EntryKey × Entry) (es : List (EntryKey × Entry)) → is_entry k.dir k.name.items (named_of x) ≡ false
      → IsStrictlySortedBy key_cmp (keys_of es)
      → with_entry (named_of x) (less (named_all es)) ≡ less (with_entry (named_of x) (named_all es))
  with-without x [] other sorted = λ j. cond (not (sym other j)) (named_of x ∷ []) []
  with-without x (e ∷ es) other sorted =
      let here = is_entry k.dir k.name.items (named_of e) in
      let head = sorted_head key_cmp e.0 (keys_of es) sorted in
      let tail = sorted_tail key_cmp e.0 (keys_of es) sorted in
      let ahead = is_ahead (named_of x) (named_of e) in
      let rest = with-without x es other tail in
      pushed here (named_of e) (less (named_all es))
      ∙ swap_here x e here ahead (named_all es) (with_entry (named_of x) (named_all es)) (with_entry (named_of x) (less
      (named_all es))) other refl rest
      (λ out goes.
      let tied : key_cmp k e.0 ≡ Equal = (Equal-is (key_cmp k e.0)).0 (sym (is_entry-key k e) ∙ out) in
      let stay = all_stay e.0 es tied head in
      ap (with_entry (named_of x)) stay ∙ first_of_all x e es (sym (is_ahead-key x e) ∙ goes) head ∙ (λ j. named_of x ∷ sym stay j))
    where
      pushed : (out : Bool) (y : Named) (ys : List Named) → with_entry (named_of x) (cond (not out) (y ∷ ys) ys)
          ≡ cond out (with_entry (named_of x) ys) (cond (is_ahead (named_of x) y) (named_of x ∷ y ∷ ys) (y ∷ with_entry
          (named_of x) ys))
      pushed true y ys = refl
      pushed false y ys = refl

-- The entries of a directory

from_by : (below same : Bool) (name : List ℕ) → is_le (ordering_then (cond below Less (cond same Equal Greater))
    (slice_cmp nat_cmp [] name)) ≡ (below || same)
from_by true same name = refl
from_by false true [] = refl
from_by false true (c ∷ cs) = refl
from_by false false name = refl

-- whether a key is at least the least of a directory
from_first : (a x : EntryKey) (d : ℕ) → a.dir ≡ d → a.name.items ≡ [] → is_le (key_cmp a x) ≡ (nat_lt d x.dir || (d == x.dir))
from_first a x d dir name =
    (λ j. is_le (ordering_then (nat_cmp (dir j) x.dir) (slice_cmp nat_cmp (name j) x.name.items)))
    ∙ from_by (nat_lt d x.dir) (d == x.dir) x.name.items

between : (d n : ℕ) → ((nat_lt d n || (d == n)) && not (nat_lt (d + 1) n || ((d + 1) == n))) ≡ (n == d)
between d n = grind (arith, nat_tests)

-- they lie between the least of the directory and the least of the next one
pub entries_between-in : (a b : EntryKey) (d : ℕ) → a.dir ≡ d → a.name.items ≡ [] → b.dir ≡ d + 1 → b.name.items ≡ []
    → (es : List (EntryKey × Entry))
    → entries_between key_cmp (Included a) (Excluded b) es ≡ entries_in d es
entries_between-in a b d dir name next none [] = refl
entries_between-in a b d dir name next none (e ∷ es) =
    let here = (λ j. from_first a e.0 d dir name j && not (from_first b e.0 (d + 1) next none j)) ∙ between d e.0.dir in
    let rest = entries_between-in a b d dir name next none es in
    λ j. cond (here j) (e ∷ rest j) (rest j)

abbrev has_some : {X : Type 0} → List X → Bool
has_some [] = false
has_some (x ∷ xs) = true

-- an iterator over them has a next one exactly where there are any
next-some : {A X : Type 0} (shows : A → X) (r : Option A) (s t : List X) → TakesFirst shows s r t → is_some r ≡ has_some s
next-some shows None s t takes = ap has_some (sym takes.0)
next-some shows (Some x) s t takes = ap has_some (sym takes)

any-in : {X : Type 0} (p : X → Bool) (xs : List X) → has_some (filter p xs) ≡ list_any p xs
any-in p [] = refl
any-in p (x ∷ xs) = by (p x) (any-in p xs)
  where
    by : (b : Bool) → has_some (filter p xs) ≡ list_any p xs → has_some (cond b (x ∷ filter p xs) (filter p xs)) ≡ (b || list_any p xs)
    by true rest = refl
    by false rest = rest

pub next-in : {A : Type 0} (shows : A → EntryKey × Entry) (r : Option A) (s t : List (EntryKey × Entry)) (d : ℕ) (es : List
    (EntryKey × Entry)) → TakesFirst shows s r t → s ≡ entries_in d es
    → is_some r ≡ has_entries d es
next-in shows r s t d es takes is = next-some shows r s t takes ∙ ap has_some is ∙ any-in (λ (e : EntryKey × Entry). e.0.dir == d) es

pub none_from_some : {X : Type 0} (o : Option X) → is_some o ≡ false → o ≡ None
none_from_some None is = refl
none_from_some (Some x) is = absurd (true≢false is)

-- a test of names, at the entries
pub any-named : (p : Named → Bool) (es : List (EntryKey × Entry)) → list_any p (named_all es) ≡ list_any (λ e. p (named_of e)) es
any-named p [] = refl
any-named p (e ∷ es) = λ j. p (named_of e) || any-named p es j

-- the entries of a directory, with names
pub named-in : (d : ℕ) (es : List (EntryKey × Entry)) → named_all (entries_in d es) ≡ filter (λ e. e.dir == d) (named_all es)
named-in d [] = refl
named-in d (e ∷ es) = by (e.0.dir == d) (named-in d es)
  where
    by : (b : Bool) → named_all (entries_in d es) ≡ filter (λ x. x.dir == d) (named_all es)
        → named_all (cond b (e ∷ entries_in d es) (entries_in d es))
        ≡ cond b (named_of e ∷ filter (λ x. x.dir == d) (named_all es)) (filter (λ x. x.dir == d) (named_all es))
    by true rest = λ j. named_of e ∷ rest j
    by false rest = rest

-- what holds of the keys of all holds of theirs
pub each-in : (P : EntryKey → Type 0) (d : ℕ) (es : List (EntryKey × Entry)) → AllByRecursion P (keys_of es)
    → AllByRecursion (λ (e : EntryKey × Entry). P e.0) (entries_in d es)
each-in P d [] all = tt
each-in P d (e ∷ es) all = by (e.0.dir == d) (each-in P d es all.1)
  where
    by : (b : Bool) → AllByRecursion (λ (x : EntryKey × Entry). P x.0) (entries_in d es)
        → AllByRecursion (λ (x : EntryKey × Entry). P x.0) (cond b (e ∷ entries_in d es) (entries_in d es))
    by true rest = (all.0, rest)
    by false rest = rest
