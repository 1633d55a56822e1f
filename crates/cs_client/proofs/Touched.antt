-- A file's context stays where no realm on the way up has another one.
use Rattle.std.proofs.Common.{◌≡◌, ◌∙◌, refl, sym, ap, ℕ, ◌+◌, ◌<◌, ◌==◌, ◌||◌, Bool, true, false, cond, List, [], ◌∷◌, ◌++◌, length, get_or, map, filter, take, is_some, append_assoc, Option, Some, None, unwrap_or, ◌⊎◌, inl, inr, ⊎_elim}
use Rattle.std.proofs.lemmas.Bool.{false≢true, true≢false}
use Rattle.std.proofs.lemmas.List.{map-append, take_more}
use Rattle.std.proofs.lemmas.List.Folds.{list_any-append}
use Rattle.std.specs.Option.{option_map, option_to_list}
use Rattle.cs_realms.specs.Changes.{change, is_of_change, is_same}
use Rattle.cs_realms.specs.declared.changed.Change.{Change}
use Rattle.cs_realms.proofs.Renewing.{equal_contexts}
use Rattle.cs_realms.proofs.Stays.{record_of-with}
use Rattle.cs_snapctx.specs.Context.{Context, empty_context}
use Rattle.cs_snapctx.specs.Contexts.{context, context_of}
use Rattle.cs_snapctx.specs.Records.{is_known, is_of, record_of, with_record}
use Rattle.cs_snapctx.specs.declared.realm.RealmRecord.{RealmRecord}
use Rattle.std.specs.BTreeMap.{get}
use Rattle.std.specs.Ordering.{nat_cmp}
use Rattle.cs_laws.specs.Context.{path_context}
use Rattle.cs_tree.specs.declared.directories.Directory.{Directory}
use Rattle.cs_tree.specs.Directories.{path_of}
use Rattle.cs_client.specs.declared.file.ClientFile.{ClientFile}
use Rattle.cs_client.specs.Told.{FilesStay, OthersStay, StaysIn, TouchesMore, is_touched}
use Rattle.cs_client.specs.Views.{ContextsFollow, Files, is_among}

or_parts : (a b : Bool) → (a || b) ≡ false → (a ≡ false) × (b ≡ false)
or_parts false b e = (refl, e)
or_parts true b e = absurd (true≢false e)

-- One record

found_same : (b : Option Context) (c : Context) → is_same b c ≡ true → b ≡ Some c
found_same None c e = absurd (false≢true e)
found_same (Some b) c e = ap (λ x. let o : Option Context = Some x in o) (equal_contexts b c e)

not_changed : (t : Bool) (x : Change) → cond t None (Some x) ≡ None → t ≡ true
not_changed true x none = refl
not_changed false x none = absurd (cc)

-- no change: the realm has no context, or that of before
unchanged : (d : ℕ) (b a : Option Context) → change d b a ≡ None → (a ≡ None) ⊎ (b ≡ a)
unchanged d b None none = inl refl
unchanged d b (Some c) none = inr (found_same b c (not_changed (is_same b c) (record { realm = d; old = b; new = c }) none))

empty_list : (o : Option Change) → option_to_list o ≡ [] → o ≡ None
empty_list None e = refl
empty_list (Some x) e = absurd (cc)

none_of : (d : ℕ) (cs : List Change) → is_among d (map (λ c. c.realm) cs) ≡ false → filter (is_of_change d) cs ≡ []
none_of d [] e = refl
none_of d (c ∷ cs) e = let parts = or_parts (c.realm == d) (is_among d (map (λ x. x.realm) cs)) e in rw (parts.0) (none_of d cs parts.1)

none_known : (rs : List RealmRecord) (o : Option RealmRecord) → option_map (context_of rs) o ≡ None → o ≡ None
none_known rs None e = refl
none_known rs (Some r) e = absurd (cc)

if_none : (b : Bool) (t : RealmRecord) (o : Option RealmRecord) → cond b (Some t) o ≡ None → o ≡ None
if_none true t o e = absurd (cc)
if_none false t o e = e

-- a realm that isn't known afterwards wasn't before
none_before : (d : ℕ) (t : RealmRecord) (rs : List RealmRecord) → context (with_record t rs) d ≡ None → context rs d ≡ None
none_before d t rs none =
    let gone : record_of d (with_record t rs) ≡ None = none_known (with_record t rs) (record_of d (with_record t rs)) none in
    ap (λ o. option_map (context_of rs) o) (if_none (is_of d t) t (record_of d rs) (sym (record_of-with d t rs) ∙ gone))

other_stays : (d : ℕ) (t : RealmRecord) (rs : List RealmRecord) (cs : List Change)
    → filter (is_of_change d) cs ≡ option_to_list (change d (context rs d) (context (with_record t rs) d))
    → is_among d (map (λ c. c.realm) cs) ≡ false → context rs d ≡ context (with_record t rs) d
other_stays d t rs cs each absent =
    let none = empty_list (change d (context rs d) (context (with_record t rs) d)) (sym each ∙ none_of d cs absent) in
    ⊎_elim (λ gone. none_before d t rs gone ∙ sym gone) (λ same. same) (unchanged d (context rs d) (context (with_record t rs) d) none)

-- the realms of its changes are touched
pub touches : (t : RealmRecord) (rs now : List RealmRecord) (cs : List Change) (old new : List ℕ) → now ≡ with_record t rs
    → ((d : ℕ) → filter (is_of_change d) cs ≡ option_to_list (change d (context rs d) (context now d)))
    → new ≡ old ++ map (λ c. c.realm) cs → TouchesMore old new rs now
touches t rs now cs old new taken each more d absent =
    let apart : (is_among d old || is_among d (map (λ c. c.realm) cs)) ≡ false =
    sym (list_any-append (λ f. f == d) old (map (λ c. c.realm) cs)) ∙ (ap (λ xs. is_among d xs) (sym more) ∙ absent) in
    let parts = or_parts (is_among d old) (is_among d (map (λ c. c.realm) cs)) apart in
    let here : filter (is_of_change d) cs ≡ option_to_list (change d (context rs d) (context (with_record t rs) d)) =
    each d ∙ ap (λ us. option_to_list (change d (context rs d) (context us d))) taken in
    (parts.0, other_stays d t rs cs here parts.1 ∙ ap (λ us. context us d) (sym taken))

-- Its changes, one after the other

pub touched_next : (cs : List Change) (i : ℕ) (c : Change) (old mid new : List ℕ) → i < length cs → c ≡ get_or cs i c
    → mid ≡ old ++ map (λ c. c.realm) (take i cs) → new ≡ mid ++ c.realm ∷ [] → new ≡ old ++ map (λ c. c.realm) (take (i + 1) cs)
touched_next cs i c old mid new within is so_far pushed =
    let one : take (i + 1) cs ≡ take i cs ++ c ∷ [] = rw (← is) at (take_more cs i c within) in
    let more : map (λ c. c.realm) (take (i + 1) cs) ≡ map (λ c. c.realm) (take i cs) ++ c.realm ∷ [] =
    ap (λ ys. map (λ c. c.realm) ys) one ∙ map-append (λ c. c.realm) (take i cs) (c ∷ []) in
    pushed
    ∙ (ap (λ xs. xs ++ c.realm ∷ []) so_far
    ∙ (append_assoc old (map (λ c. c.realm) (take i cs)) (c.realm ∷ []) ∙ ap (λ ys. old ++ ys) (sym more)))

-- One record after the other

pub others_first : (touched : List ℕ) (rs : List RealmRecord) → OthersStay touched rs rs
others_first touched rs d absent = refl

pub others_next : (old new : List ℕ) (rs mid now : List RealmRecord) → OthersStay old rs mid → TouchesMore old new mid now → OthersStay new rs now
others_next old new rs mid now stay more d absent = let one = more d absent in stay d one.0 ∙ one.1

-- Along a way up

known_by : (rs : List RealmRecord) (o : Option RealmRecord) → is_some (option_map (context_of rs) o) ≡ is_some o
known_by rs None = refl
known_by rs (Some r) = refl

known_same : (d : ℕ) (rs now : List RealmRecord) → context rs d ≡ context now d → is_known d rs ≡ is_known d now
known_same d rs now same = sym (known_by rs (record_of d rs)) ∙ (ap is_some same ∙ known_by now (record_of d now))

pub way_stays : (touched up : List ℕ) (rs now : List RealmRecord) → OthersStay touched rs now → is_touched touched up ≡ false
    → path_context up rs ≡ path_context up now
way_stays touched [] rs now stay quiet = refl
way_stays touched (d ∷ up) rs now stay quiet =
    let parts = or_parts (is_among d touched) (is_touched touched up) quiet in
    let same : context rs d ≡ context now d = stay d parts.0 in
    at (is_known d now) refl (known_same d rs now same) same (way_stays touched up rs now stay parts.1)
  where
    at : (b : Bool) → is_known d now ≡ b → is_known d rs ≡ is_known d now → context rs d ≡ context now d → path_context up rs ≡ path_context up now
        → path_context (d ∷ up) rs ≡ path_context (d ∷ up) now
    at true is equal same rest = rw (equal, is) (ap (λ c. unwrap_or c empty_context) same)
    at false is equal same rest = rw (equal, is) rest

-- so does a file that had the context of its way up
pub files_stay : (tree : List Directory) (rs now : List RealmRecord) (files : Files) (touched : List ℕ) → ContextsFollow tree rs files
    → OthersStay touched rs now
    → FilesStay (path_of tree) touched now files
files_stay tree rs now files touched follow stay f = at (get nat_cmp files f) refl
  where
    at : (o : Option ClientFile) → get nat_cmp files f ≡ o → StaysIn (path_of tree) touched now o
    at None is = tt
    at (Some r) is = λ quiet. follow f r is ∙ way_stays touched (path_of tree r.home) rs now stay quiet
