-- What each operation answers and leaves, by the tables.
use Rattle.std.proofs.Common.{◌≡◌, ℕ, ◌+◌, ◌==◌, ◌&&◌, Bool, true, false, cond, List, [], ◌∷◌, ◌++◌, Option, Some, None, is_some, unwrap_or, refl, sym, ap, true≢false, ◌∙◌}
use Rattle.std.specs.BTreeMap.{insert_entry, is_at}
use Rattle.std.specs.Cmp.{Equal-is}
use Rattle.std.specs.declared.cmp.Ordering.TheVariants.{Equal}
use Rattle.std.specs.List.Sorted.{IsStrictlySortedBy}
use Rattle.std.specs.Map.{keys_of, lookup, remove_entry}
use Rattle.std.specs.Option.{option_map}
use Rattle.cs_laws.specs.declared.requests.OpAnswer.{OpAnswer}
use Rattle.cs_laws.specs.declared.requests.OpAnswer.TheVariants as replies
use Rattle.cs_laws.specs.declared.requests.ReqOp.TheVariants as ops
use Rattle.cs_laws.specs.Namespace.{
  Named,
  Names,
  after_answer,
  entry_at,
  first_made,
  made_at,
  next_ino,
  has_dir,
  has_entry,
  has_file,
  moved,
  renamed,
  unlinked,
  within,
  with_entry,
  without_entry,
}
use Rattle.cs_names.specs.declared.table.Entry.{Entry}
use Rattle.cs_names.specs.declared.table.EntryKey.{EntryKey}
use Rattle.cs_names.specs.Table.{IsTable, has_entries, is_among, key_cmp, making, refusal}
use Rattle.cs_names.proofs.Entries.{
  any-lookup,
  any-named,
  find-lookup,
  insert-with,
  is_entry-key,
  key_cmp_total,
  named_at,
  remove-without,
  with-without,
}
use Rattle.cs_names.proofs.Tables.{among_files, has_dir-table, shown}

-- A directory that doesn't stand

pub refusal-table : {es : List (EntryKey × Entry)} {dirs files : List ℕ} {made : ℕ} → IsTable es dirs files made → (ns : Names)
    → shown es files made ≡ ns
    → (d : ℕ) (stands is_file : Bool) → is_among d dirs ≡ stands → is_among d files ≡ is_file
    → refusal ns d ≡ cond stands None (Some (cond is_file replies.NotDir replies.Missing))
refusal-table {es} {dirs} {files} t ns view d stands is_file is_dir is =
    ap (λ n. refusal n d) (sym view) ∙ (λ j. cond ((has_dir-table t d ∙ is_dir) j) None (Some (cond ((among_files d files
    ∙ is) j) replies.NotDir replies.Missing)))

within-refusal : (ns : Names) (d : ℕ) (a : OpAnswer) → within ns d a ≡ unwrap_or (refusal ns d) a
within-refusal ns d a = by (has_dir ns d) (has_file ns d)
  where
    by : (stands is_file : Bool) → cond stands a (cond is_file replies.NotDir replies.Missing)
        ≡ unwrap_or (cond stands None (Some (cond is_file replies.NotDir replies.Missing))) a
    by true is_file = refl
    by false is_file = refl

pub within-none : (ns : Names) (d : ℕ) (a : OpAnswer) → refusal ns d ≡ None → within ns d a ≡ a
within-none ns d a none = within-refusal ns d a ∙ ap (λ o. unwrap_or o a) none

-- an answer that refuses changes nothing
pub after-unmade : (ns : Names) (d : ℕ) (name : List ℕ) (is_dir : Bool) (a : OpAnswer) → ((i : ℕ) → a ≡ replies.Made i → ⊥)
    → ns ≡ after_answer (making is_dir d name) a ns
after-unmade ns d name true (replies.Made i) other = absurd (other i refl)
after-unmade ns d name true _ other = refl
after-unmade ns d name false (replies.Made i) other = absurd (other i refl)
after-unmade ns d name false _ other = refl

-- What an answer tells

pub made-is : (ns : Names) (d : ℕ) (name : List ℕ) (i : ℕ) → within ns d (made_at ns d name) ≡ replies.Made i
    → (has_entry ns d name ≡ false) × (i ≡ next_ino ns)
made-is ns d name i is = by (has_dir ns d) (has_file ns d) (has_entry ns d name) is
  where
    by : (stands is_file taken : Bool)
        → cond stands (cond taken replies.Exists (replies.Made (next_ino ns))) (cond is_file replies.NotDir replies.Missing) ≡ replies.Made i
        → (taken ≡ false) × (i ≡ next_ino ns)
    by true is_file true is = absurd cc
    by true is_file false is = (refl, cc)
    by false true taken is = absurd cc
    by false false taken is = absurd cc

pub gone-is : (ns : Names) (d : ℕ) (o : Option Named) → within ns d (unlinked ns o) ≡ replies.Gone → is_some o ≡ true
gone-is ns d (Some e) is = refl
gone-is ns d None is = by (has_dir ns d) (has_file ns d) is
  where
    by : (stands is_file : Bool) → cond stands replies.Missing (cond is_file replies.NotDir replies.Missing) ≡ replies.Gone → false ≡ true
    by true is_file is = absurd cc
    by false true is = absurd cc
    by false false is = absurd cc

pub moved-is : (ns : Names) (d : ℕ) (name new : List ℕ) → within ns d (renamed ns d name new) ≡ replies.Moved
    → (has_entry ns d name ≡ true) × (has_entry ns d new ≡ false)
moved-is ns d name new is = by (has_dir ns d) (has_file ns d) (has_entry ns d name) (has_entry ns d new) is
  where
    by : (stands is_file there taken : Bool)
        → cond stands (cond there (cond taken replies.Exists replies.Moved) replies.Missing) (cond is_file replies.NotDir replies.Missing)
        ≡ replies.Moved
        → (there ≡ true) × (taken ≡ false)
    by true is_file true true is = absurd cc
    by true is_file true false is = (refl, refl)
    by true is_file false taken is = absurd cc
    by false true there taken is = absurd cc
    by false false there taken is = absurd cc

-- what is found by one key stays where another key gets the same
pub still_there : (b : Bool) (v : Entry) (was : Option Entry) {now : Option Entry} → was ≡ Some v → now ≡ cond b (Some v) was
    → now ≡ Some v
still_there true v was is then = then
still_there false v was is then = then ∙ is

-- keys of which one is found and the other isn't are not tied
apart : (k new : EntryKey) (v : Entry) (es : List (EntryKey × Entry)) → lookup (is_at (key_cmp k)) es ≡ Some v
    → lookup (is_at (key_cmp new)) es ≡ None → is_at (key_cmp k) new ≡ false
apart k new v es there free = by (is_at (key_cmp k) new) refl
  where
    by : (b : Bool) → is_at (key_cmp k) new ≡ b → b ≡ false
    by false is = refl
    by true is =
        let tied : key_cmp k new ≡ Equal = (Equal-is (key_cmp k new)).0 is in
        let same : lookup (is_at (key_cmp k)) es ≡ lookup (is_at (key_cmp new)) es = λ j. lookup (is_at
        (λ x. key_cmp_total.congr k new x tied j)) es in
        cc

-- Look-ups: k is the key of a name in a directory

module _ (es : List (EntryKey × Entry)) (files : List ℕ) (made : ℕ) (ns : Names) (view : shown es files made
    ≡ ns) {d : ℕ} {name : List ℕ} (k : EntryKey) (in_dir : k.dir ≡ d) (has_name : k.name.items ≡ name) where
  pub has_entry-lookup : has_entry ns d name ≡ is_some (lookup (is_at (key_cmp k)) es)
  has_entry-lookup = (λ j. has_entry (sym view j) (sym in_dir j) (sym has_name j)) ∙ any-lookup k es

  pub entry_at-lookup : entry_at ns d name ≡ option_map (named_at k) (lookup (is_at (key_cmp k)) es)
  entry_at-lookup = (λ j. entry_at (sym view j) (sym in_dir j) (sym has_name j)) ∙ find-lookup k es

  pub made-taken : refusal ns d ≡ None → is_some (lookup (is_at (key_cmp k)) es) ≡ true
      → replies.Exists ≡ within ns d (made_at ns d name)
  made-taken stands taken = sym (within-none ns d (made_at ns d name) stands
      ∙ ap (λ b. cond b replies.Exists (replies.Made (next_ino ns))) (has_entry-lookup ∙ taken))

  pub made-free : (i : ℕ) → refusal ns d ≡ None → is_some (lookup (is_at (key_cmp k)) es) ≡ false → i ≡ first_made + made
      → replies.Made i ≡ within ns d (made_at ns d name)
  made-free i stands free is =
      sym (within-none ns d (made_at ns d name) stands ∙ ap (λ b. cond b replies.Exists (replies.Made (next_ino ns)))
      (has_entry-lookup ∙ free)
      ∙ (λ j. replies.Made (next_ino (sym view j))) ∙ ap replies.Made (sym is))

  pub unlinked-none : refusal ns d ≡ None → lookup (is_at (key_cmp k)) es ≡ None → replies.Missing
      ≡ within ns d (unlinked ns (entry_at ns d name))
  unlinked-none stands none = sym (within-none ns d (unlinked ns (entry_at ns d name)) stands ∙ ap (unlinked ns) (entry_at-lookup
      ∙ ap (option_map (named_at k)) none))

  pub unlinked-some : (v : Entry) (b : Bool) → refusal ns d ≡ None → lookup (is_at (key_cmp k)) es ≡ Some v
      → (v.is_dir && has_entries v.ino es) ≡ b
      → cond b replies.NotEmpty replies.Gone ≡ within ns d (unlinked ns (entry_at ns d name))
  unlinked-some v b stands some is =
      sym (within-none ns d (unlinked ns (entry_at ns d name)) stands ∙ ap (unlinked ns) (entry_at-lookup
      ∙ ap (option_map (named_at k)) some)
      ∙ (λ j. unlinked (sym view j) (Some (named_at k v))) ∙ (λ j. cond (v.is_dir && any-named
      (λ x. x.dir == v.ino) es j) replies.NotEmpty replies.Gone)
      ∙ ap (λ c. cond c replies.NotEmpty replies.Gone) is)

  pub renamed-none : (new : List ℕ) → refusal ns d ≡ None → lookup (is_at (key_cmp k)) es ≡ None
      → replies.Missing ≡ within ns d (renamed ns d name new)
  renamed-none new stands none =
      sym (within-none ns d (renamed ns d name new) stands
      ∙ ap (λ b. cond b (cond (has_entry ns d new) replies.Exists replies.Moved) replies.Missing) (has_entry-lookup ∙ ap is_some none))

  pub renamed-some : (new : List ℕ) (v : Entry) (b : Bool) → refusal ns d ≡ None → lookup (is_at (key_cmp k)) es ≡ Some v
      → has_entry ns d new ≡ b
      → cond b replies.Exists replies.Moved ≡ within ns d (renamed ns d name new)
  renamed-some new v b stands some is =
      sym (within-none ns d (renamed ns d name new) stands
      ∙ ap (λ c. cond c (cond (has_entry ns d new) replies.Exists replies.Moved) replies.Missing) (has_entry-lookup ∙ ap is_some some)
      ∙ ap (λ c. cond c replies.Exists replies.Moved) is)

  pub gone-there : within ns d (unlinked ns (entry_at ns d name)) ≡ replies.Gone → lookup (is_at (key_cmp k)) es ≡ None → ⊥
  gone-there gone none =
      true≢false (sym (gone-is ns d (entry_at ns d name) gone) ∙ ap is_some (entry_at-lookup ∙ ap (option_map (named_at k)) none))

  pub moved-there : (new : List ℕ) → within ns d (renamed ns d name new) ≡ replies.Moved → lookup (is_at (key_cmp k)) es ≡ None → ⊥
  moved-there new moves none = true≢false (sym (moved-is ns d name new moves).0 ∙ has_entry-lookup ∙ ap is_some none)

  -- What is left

  pub after-made : (i : ℕ) (is_dir : Bool) → lookup (is_at (key_cmp k)) es ≡ None
      → shown (insert_entry key_cmp es k (record { ino = i; is_dir = is_dir })) (cond is_dir files (files ++ i ∷ [])) (made + 1)
      ≡ after_answer (making is_dir d name) (replies.Made i) ns
  after-made i true none =
      (λ j. record { entries = insert-with k (record { ino = i; is_dir = true }) es none j; files = files; made = made + 1 })
      ∙ (λ j. after_answer (ops.Mkdir (in_dir j) (has_name j)) (replies.Made i) (view j))
  after-made i false none =
      (λ j. record { entries = insert-with k (record { ino = i; is_dir = false }) es none j; files = files ++ i ∷ []; made = made + 1 })
      ∙ (λ j. after_answer (ops.Create (in_dir j) (has_name j)) (replies.Made i) (view j))

  pub after-gone : IsStrictlySortedBy key_cmp (keys_of es) → shown (remove_entry (is_at (key_cmp k)) es) files made
      ≡ after_answer (ops.Unlink d name) replies.Gone ns
  after-gone sorted =
      (λ j. record { entries = remove-without k es sorted j; files = files; made = made })
      ∙ (λ j. after_answer (ops.Unlink (in_dir j) (has_name j)) replies.Gone (view j))

  pub after-moved : (new : EntryKey) (v : Entry) (new_name : List ℕ) → new.dir ≡ d → new.name.items ≡ new_name
      → lookup (is_at (key_cmp k)) es ≡ Some v → lookup (is_at (key_cmp new)) es ≡ None
      → IsStrictlySortedBy key_cmp (keys_of es) → IsStrictlySortedBy key_cmp (keys_of (insert_entry key_cmp es new v))
      → shown (remove_entry (is_at (key_cmp k)) (insert_entry key_cmp es new v)) files made
      ≡ after_answer (ops.Rename d name new_name) replies.Moved ns
  after-moved new v new_name new_dir has_new there free sorted sorted_with =
      let other = is_entry-key k (new, v) ∙ apart k new v es there free in
      let entry : entry_at ns d name ≡ Some (named_at k v) = entry_at-lookup ∙ ap (option_map (named_at k)) there in
      let entries = remove-without k (insert_entry key_cmp es new v) sorted_with
      ∙ (ap (without_entry k.dir k.name.items) (insert-with new v es free) ∙ sym (with-without k (new, v) es other sorted)) in
      (λ j. record { entries = entries j; files = files; made = made })
      ∙ ((λ j. record {
        entries = with_entry (record { dir = (new_dir ∙ sym in_dir) j; name = has_new j; ino = v.ino; is_dir = v.is_dir })
            (without_entry k.dir k.name.items (view j).entries);
        files = (view j).files;
        made = (view j).made;
      })
      ∙ (λ j. record { entries = moved new_name (sym entry j) ns.entries; files = ns.files; made = ns.made }))
