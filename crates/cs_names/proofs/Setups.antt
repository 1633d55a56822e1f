-- What lines before the run make, by the tables.
use Rattle.std.proofs.Common.{
  ◌≡◌,
  ℕ,
  ◌+◌,
  ◌%◌,
  ◌^◌,
  ◌<◌,
  ◌≤◌,
  ◌==◌,
  ◌||◌,
  Bool,
  true,
  false,
  cond,
  List,
  [],
  ◌∷◌,
  ◌++◌,
  None,
  nat_le,
  length,
  refl,
  sym,
  ap,
  subst,
  ◌∙◌,
  true≢false,
  arith,
}
use Rattle.std.proofs.lemmas.Bool.Decides.{nat_tests}
use Rattle.std.proofs.lemmas.Fmt.{decimal_by_steps, decimal_injective, length-decimal-le}
use Rattle.std.proofs.lemmas.List.Folds.{list_all-append, list_any-append}
use Rattle.std.proofs.lemmas.Slice.Eq.{bytes_eq-Decides}
use Rattle.std.specs.BTreeMap.{insert_entry, is_at}
use Rattle.std.specs.Cmp.{second_so}
use Rattle.std.specs.Fmt.{decimal}
use Rattle.std.specs.List.{AllByRecursion, list_all, list_any}
use Rattle.std.specs.Map.{lookup}
use Rattle.std.specs.Str.{bytes_eq}
use Rattle.cs_ids.specs.Names.{is_name, is_name_byte}
use Rattle.cs_laws.specs.Namespace.{Named, Names, has_dir, has_file, is_ahead, is_dir_entry, is_entry, with_entry}
use Rattle.cs_names.specs.declared.setup.SetupStep.TheVariants as steps
use Rattle.cs_names.specs.declared.table.Entry.{Entry}
use Rattle.cs_names.specs.declared.table.EntryKey.{EntryKey}
use Rattle.cs_names.specs.Setup.{IsSetUp, IsSetupEntry, is_in_use, setup_name, setup_step, with_setup}
use Rattle.cs_names.specs.Table.{IsTable, is_among, key_cmp, named_all, named_of}
use Rattle.cs_names.proofs.Entries.{any-lookup, insert-with, none_from_some}
use Rattle.cs_names.proofs.Tables.{among_files, has_dir-table, shown}

-- The name of a line's entry is a name

is_digit_spelled : (n : ℕ) → n < 10 → is_name_byte (48 + n) ≡ true
is_digit_spelled n l = grind (arith, nat_tests)

digits_spell : (n : ℕ) → n < 2 ^ 64 → list_all is_name_byte (decimal n) ≡ true
digits_spell n small =
    decimal_by_steps (λ _ ds. list_all is_name_byte ds ≡ true) (λ m l. rw (is_digit_spelled m l) refl)
    (λ m ds l rest. list_all-append is_name_byte ds ((48 + m % 10) ∷ [])
    ∙ rw (rest, is_digit_spelled (m % 10) (omega arith)) refl) n small

pub setup_name-spelled : (is_dir : Bool) (i : ℕ) → i ≤ 9999 → is_name (setup_name is_dir i) ≡ true
setup_name-spelled is_dir i small = by is_dir
  where
    few : (l : ℕ) → l ≤ 4 → nat_le l 31 ≡ true
    few l is = grind (arith, nat_tests)

    by : (b : Bool) → is_name (setup_name b i) ≡ true
    by true = rw (
      few (length (decimal i)) (length-decimal-le 4 i (omega arith) (omega arith) (omega arith)),
      digits_spell i
          (omega arith),
    ) refl
    by false = rw (
      few (length (decimal i)) (length-decimal-le 4 i (omega arith) (omega arith) (omega arith)),
      digits_spell i
          (omega arith),
    ) refl

-- and tells its inode

same_rest : (c d : ℕ) (xs ys : List ℕ) → c ∷ xs ≡ d ∷ ys → (c ≡ d) × (xs ≡ ys)
same_rest c d xs ys is = (cc, cc)

letter : Bool → ℕ
letter true = 100
letter false = 102

pub setup_name-tells : (a b : Bool) (i j : ℕ) → i ≤ 9999 → j ≤ 9999 → setup_name a i ≡ setup_name b j → (a ≡ b) × (i ≡ j)
setup_name-tells true true i j l m is = (
  refl,
  decimal_injective i j (omega arith) (omega arith) (same_rest 100 100 (decimal i)
      (decimal j) is).1,
)
setup_name-tells false false i j l m is = (
  refl,
  decimal_injective i j (omega arith) (omega arith) (same_rest 102 102 (decimal i)
      (decimal j) is).1,
)
setup_name-tells true false i j l m is = absurd (omega (arith, (same_rest 100 102 (decimal i) (decimal j) is).0))
setup_name-tells false true i j l m is = absurd (omega (arith, (same_rest 102 100 (decimal i) (decimal j) is).0))

-- A name that isn't in use

module _ (files : List ℕ) (d i : ℕ) (small : i ≤ 9999) where
  -- an entry of the name is one of the inode
  tells_inode : (b : Bool) (n : Named) → IsSetupEntry files n → is_entry d (setup_name b i) n ≡ true → (n.is_dir ≡ b) × (n.ino ≡ i)
  tells_inode b n e is =
      let name : n.name ≡ setup_name b i = (bytes_eq-Decides n.name (setup_name b i)).0 (second_so (n.dir == d) (bytes_eq n.name
      (setup_name b i)) is) in
      setup_name-tells n.is_dir b n.ino i e.small small (sym e.name ∙ name)

  named_dir : (ns : List Named) → AllByRecursion (IsSetupEntry files) ns → list_any (is_dir_entry i) ns ≡ false
      → list_any (is_entry d (setup_name true i)) ns ≡ false
  named_dir [] all none = refl
  named_dir (n ∷ ns) all none = by (is_entry d (setup_name true i) n) refl (named_dir ns all.1 (right (is_dir_entry i n) (list_any
      (is_dir_entry i) ns) none))
    where
      right : (a b : Bool) → (a || b) ≡ false → b ≡ false
      right true b is = absurd (true≢false is)
      right false b is = is

      is_it : (n.is_dir ≡ true) × (n.ino ≡ i) → is_dir_entry i n ≡ true
      is_it is = rw (is.0, is.1) (grind arith)

      by : (b : Bool) → is_entry d (setup_name true i) n ≡ b → list_any (is_entry d (setup_name true i)) ns ≡ false
          → (b || list_any (is_entry d (setup_name true i)) ns) ≡ false
      by true is rest = absurd (true≢false (sym (ap (λ c. c || list_any (is_dir_entry i) ns) (is_it (tells_inode true n all.0 is)))
          ∙ none))
      by false is rest = rest

  named_file : (ns : List Named) → AllByRecursion (IsSetupEntry files) ns → list_any (λ g. g == i) files ≡ false
      → list_any (is_entry d (setup_name false i)) ns ≡ false
  named_file [] all none = refl
  named_file (n ∷ ns) all none = by (is_entry d (setup_name false i) n) refl (named_file ns all.1 none)
    where
      among : (n.is_dir ≡ false) × (n.ino ≡ i) → list_any (λ g. g == i) files ≡ true
      among is = subst (λ m. list_any (λ g. g == m) files ≡ true) is.1 (ap (λ c. c || list_any (λ g. g == n.ino) files) (sym is.0)
          ∙ all.0.file)

      by : (b : Bool) → is_entry d (setup_name false i) n ≡ b → list_any (is_entry d (setup_name false i)) ns ≡ false
          → (b || list_any (is_entry d (setup_name false i)) ns) ≡ false
      by true is rest = absurd (true≢false (sym (among (tells_inode false n all.0 is)) ∙ none))
      by false is rest = rest

neither : (a b : Bool) → (a || b) ≡ false → (a ≡ false) × (b ≡ false)
neither true b is = absurd (true≢false is)
neither false b is = (refl, is)

-- so no entry has the name that a line is to make
pub free-name : (es : List (EntryKey × Entry)) (files : List ℕ) (made : ℕ) (ns : Names) → shown es files made ≡ ns → IsSetUp ns
    → (k : EntryKey) (b : Bool) (i : ℕ) → i ≤ 9999
    → k.name.items ≡ setup_name b i → is_in_use i ns ≡ false → lookup (is_at (key_cmp k)) es ≡ None
free-name es files made ns view set_up k b i small name unused =
    none_from_some (lookup (is_at (key_cmp k)) es)
    (sym (any-lookup k es) ∙ ap (λ n. list_any (is_entry k.dir n) (named_all es)) name
    ∙ by b (subst IsSetUp (sym view) set_up) (subst (λ n. is_in_use i n ≡ false) (sym view) unused))
  where
    by : (c : Bool) → IsSetUp (shown es files made) → is_in_use i (shown es files made) ≡ false
        → list_any (is_entry k.dir (setup_name c i)) (named_all es) ≡ false
    by true set unused = named_dir files k.dir i small (named_all es) set (neither (i == 1) (list_any (is_dir_entry i) (named_all es))
        (neither (has_dir (shown es files made) i) (has_file (shown es files made) i) unused).0).1
    by false set unused = named_file files k.dir i small (named_all es) set (neither (has_dir (shown es files made) i) (has_file
        (shown es files made) i) unused).1

-- What such a line leaves

module _ (es : List (EntryKey × Entry)) (files : List ℕ) (made : ℕ) (ns : Names) (view : shown es files made
    ≡ ns) {d : ℕ} (k : EntryKey) (i : ℕ) (in_dir : k.dir ≡ d)
    (free : lookup (is_at (key_cmp k)) es ≡ None) where
  pub after-setup : (b : Bool) → k.name.items ≡ setup_name b i
      → shown (insert_entry key_cmp es k (record { ino = i; is_dir = b })) (cond b files (files ++ i ∷ [])) made ≡ with_setup b i d ns
  after-setup true name =
      (λ j. record { entries = insert-with k (record { ino = i; is_dir = true }) es free j; files = files; made = made })
      ∙ (λ j. record {
        entries = with_entry (record { dir = in_dir j; name = name j; ino = i; is_dir = true })
            (view j).entries;
        files = (view j).files;
        made = (view j).made;
      })
  after-setup false name =
      (λ j. record { entries = insert-with k (record { ino = i; is_dir = false }) es free j; files = files ++ i ∷ []; made = made })
      ∙ (λ j. record {
        entries = with_entry (record { dir = in_dir j; name = name j; ino = i; is_dir = false })
            (view j).entries;
        files = (view j).files ++ i ∷ [];
        made = (view j).made;
      })

  more_files : (b : Bool) (n : Named) → IsSetupEntry files n → IsSetupEntry (cond b files (files ++ i ∷ [])) n
  more_files true n e = e
  more_files false n e = record {
    name = e.name;
    small = e.small;
    file = (λ j. n.is_dir || list_any-append (λ g. g == n.ino) files (i ∷ []) j)
        ∙ either n.is_dir (list_any (λ g. g == n.ino) files) (list_any (λ g. g == n.ino) (i ∷ [])) e.file;
  }
    where
      either : (a b c : Bool) → (a || b) ≡ true → (a || (b || c)) ≡ true
      either true b c is = refl
      either false true c is = refl
      either false false c is = absurd (true≢false (sym is))

  all_more : (b : Bool) (ns : List Named) → AllByRecursion (IsSetupEntry files) ns
      → AllByRecursion (IsSetupEntry (cond b files (files ++ i ∷ []))) ns
  all_more b [] all = tt
  all_more b (n ∷ ns) all = (more_files b n all.0, all_more b ns all.1)

  all_with : (P : Named → Type 0) (x : Named) (ns : List Named) → P x → AllByRecursion P ns → AllByRecursion P (with_entry x ns)
  all_with P x [] here all = (here, tt)
  all_with P x (n ∷ ns) here all = by (is_ahead x n) (all_with P x ns here all.1)
    where
      by : (b : Bool) → AllByRecursion P (with_entry x ns) → AllByRecursion P (cond b (x ∷ n ∷ ns) (n ∷ with_entry x ns))
      by true rest = (here, all)
      by false rest = (all.0, rest)

  is_new_file : (b : Bool) → (b || list_any (λ g. g == i) (cond b files (files ++ i ∷ []))) ≡ true
  is_new_file true = refl
  is_new_file false = list_any-append (λ g. g == i) files (i ∷ []) ∙ last (list_any (λ g. g == i) files)
    where
      last : (b : Bool) → (b || ((i == i) || false)) ≡ true
      last b = grind arith

  pub still-setup : (b : Bool) → IsSetUp ns → i ≤ 9999 → k.name.items ≡ setup_name b i
      → IsSetUp (shown (insert_entry key_cmp es k (record { ino = i; is_dir = b })) (cond b files (files ++ i ∷ [])) made)
  still-setup b set_up small name =
      subst (AllByRecursion (IsSetupEntry (cond b files (files ++ i ∷ [])))) (sym (insert-with k
      (record { ino = i; is_dir = b }) es free))
      (all_with (IsSetupEntry (cond b files (files ++ i ∷ []))) (named_of (k, record { ino = i; is_dir = b })) (named_all es)
      (record { name = name; small = small; file = is_new_file b }) (all_more b (named_all es) (subst IsSetUp (sym view) set_up)))

-- An inode in use

pub in-use-table : {es : List (EntryKey × Entry)} {dirs files : List ℕ} {made : ℕ} → IsTable es dirs files made → (ns : Names)
    → shown es files made ≡ ns → (i : ℕ)
    → is_in_use i ns ≡ (is_among i dirs || is_among i files)
in-use-table {es} {dirs} {files} t ns view i = ap (is_in_use i) (sym view) ∙ (λ j. has_dir-table t i j || among_files i files j)

pub unused-dir : {es : List (EntryKey × Entry)} {dirs files : List ℕ} {made : ℕ} → IsTable es dirs files made → (ns : Names)
    → shown es files made ≡ ns → (i : ℕ)
    → is_in_use i ns ≡ false → is_among i dirs ≡ false
unused-dir {es} {dirs} {files} t ns view i unused = (neither (is_among i dirs) (is_among i files) (sym (in-use-table t ns view i)
    ∙ unused)).0

pub made-step : (ns : Names) (i d : ℕ) → is_in_use i ns ≡ false → has_dir ns d ≡ true → setup_step i d ns ≡ steps.Made
made-step ns i d unused stands = λ j. cond (unused j) steps.Exists (cond (stands j) steps.Made steps.NoDir)
