-- The contexts of all files follow the realms.
use Rattle.std.proofs.Common.{◌≡◌, ◌∙◌, refl, sym, ap, subst, ℕ, ◌+◌, ◌≤◌, ◌==◌, ◌&&◌, ◌||◌, not, nat_eq, Bool, true, false, cond, is_some, List, [], ◌∷◌, ◌++◌, length, suc, Option, Some, None, arith}
use Rattle.std.proofs.lemmas.Bool.{eqb-true}
use Rattle.std.proofs.lemmas.List.Folds.{list_any-append}
use Rattle.std.specs.BTreeMap.{get}
use Rattle.std.specs.Cmp.Lexicographic.{pointwise}
use Rattle.std.specs.Option.{option_map}
use Rattle.std.specs.Ordering.{nat_cmp}
use mir.Val.{bool_byte}
use Rattle.cs_inode.specs.Calls.{with_context_at}
use Rattle.cs_inode.specs.Inodes.{FileInode, with_context}
use Rattle.cs_laws.specs.Context.{differs}
use Rattle.cs_realms.proofs.Renewing.{equal_contexts}
use Rattle.cs_snapctx.specs.Context.{Context}
use Rattle.cs_snapctx.specs.declared.realm.RealmRecord.{RealmRecord}
use Rattle.cs_tree.specs.declared.directories.Directory.{Directory}
use Rattle.cs_tree.specs.Directories.{path_of}
use Rattle.cs_client.specs.declared.file.ClientFile.{ClientFile}
use Rattle.cs_client.specs.Told.{ChangesAll, ChangesRow, ContextsRise, FilesStay, RisesIn, StaysIn, count_changed, needs_at, told_context, told_row}
use Rattle.cs_client.specs.Views.{ContextsFollow, Files, is_among, is_kept}

-- of a file that isn't kept there is nothing to change
unlisted : (up : ℕ → List ℕ) (ts : List RealmRecord) (k : Bool) (o : Option ClientFile) → is_some o ≡ k
    → cond k (option_map (told_row up ts) o) o ≡ option_map (told_row up ts) o
unlisted up ts true o is = refl
unlisted up ts false (Some r) is = absurd (cc)
unlisted up ts false None is = refl

pub told_all : (up : ℕ → List ℕ) (ts : List RealmRecord) (old new : Files) (made : List ℕ) → ((f : ℕ) → is_kept old f ≡ is_among f made)
    → ChangesAll up ts old new made → (f : ℕ) → get nat_cmp new f ≡ option_map (told_row up ts) (get nat_cmp old f)
told_all up ts old new made listed all f = all f ∙ unlisted up ts (is_among f made) (get nat_cmp old f) (listed f)

-- Every file has the context of its directory then

same_context : (a b : Context) → differs a b ≡ false → a ≡ b
same_context a b e = equal_contexts a b (at (nat_eq a.seq b.seq && pointwise nat_eq a.snaps b.snaps) e)
  where
    at : (k : Bool) → not k ≡ false → k ≡ true
    at true e = refl
    at false e = absurd (cc)

context_told : (c : Context) (i : FileInode) → (with_context_at c i).context ≡ c
context_told c i = at (differs i.context c) refl
  where
    at : (b : Bool) → differs i.context c ≡ b → (cond b (with_context c i) i).context ≡ c
    at true e = refl
    at false e = same_context i.context c e

told_some : (up : ℕ → List ℕ) (ts : List RealmRecord) (o : Option ClientFile) (x : ClientFile) → option_map (told_row up ts) o ≡ Some x
    → x.inode.context ≡ told_context up ts x
told_some up ts (Some r) x e =
    let now : ◌≡◌ {A = ClientFile} (told_row up ts r) x = cc in
    subst (λ (y : ClientFile). y.inode.context ≡ told_context up ts y) now (context_told (told_context up ts r) r.inode)
told_some up ts None x e = absurd (cc)

pub told_follow : (tree : List Directory) (ts : List RealmRecord) (old new : Files) (made : List ℕ) → ((f : ℕ) → is_kept old f ≡ is_among f made)
    → ChangesAll (path_of tree) ts old new made → ContextsFollow tree ts new
told_follow tree ts old new made listed all f x is =
    told_some (path_of tree) ts (get nat_cmp old f) x (sym (told_all (path_of tree) ts old new made listed all f) ∙ is)

-- One more row

one_row : (up : ℕ → List ℕ) (ts : List RealmRecord) (b was : Bool) (o : Option ClientFile) → (b ≡ true → was ≡ false)
    → cond b (option_map (told_row up ts) (cond was (option_map (told_row up ts) o) o)) (cond was (option_map (told_row up ts) o) o)
    ≡ cond (was || (b || false)) (option_map (told_row up ts) o) o
one_row up ts true true o apart = let never = apart refl in absurd (cc)
one_row up ts true false o apart = refl
one_row up ts false true o apart = refl
one_row up ts false false o apart = refl

same_before : (up : ℕ → List ℕ) (ts : List RealmRecord) (old mid : Files) (fs : List ℕ) (f : ℕ) → ChangesAll up ts old mid fs → is_among f fs ≡ false
    → get nat_cmp mid f ≡ get nat_cmp old f
same_before up ts old mid fs f all absent = rw absent at (all f)

pub next_rises : (up : ℕ → List ℕ) (ts : List RealmRecord) (old mid : Files) (fs : List ℕ) (f : ℕ) → ChangesAll up ts old mid fs → is_among f fs ≡ false
    → ContextsRise up ts old → RisesIn up ts (get nat_cmp mid f)
next_rises up ts old mid fs f all absent rises = subst (λ o. RisesIn up ts o) (sym (same_before up ts old mid fs f all absent)) (rises f)

pub next_stays : (up : ℕ → List ℕ) (ts : List RealmRecord) (touched : List ℕ) (old mid : Files) (fs : List ℕ) (f : ℕ) → ChangesAll up ts old mid fs
    → is_among f fs ≡ false → FilesStay up touched ts old → StaysIn up touched ts (get nat_cmp mid f)
next_stays up ts touched old mid fs f all absent stay =
    subst (λ o. StaysIn up touched ts o) (sym (same_before up ts old mid fs f all absent)) (stay f)

pub next_rows : (up : ℕ → List ℕ) (ts : List RealmRecord) (old mid new : Files) (fs : List ℕ) (f : ℕ) (b : Bool) → ChangesAll up ts old mid fs
    → ChangesRow up ts mid new f b → is_among f fs ≡ false → ChangesAll up ts old new (fs ++ f ∷ [])
next_rows up ts old mid new fs f b all one absent g =
    one.rows g
    ∙ (ap (λ o. cond (f == g) (option_map (told_row up ts) o) o) (all g)
    ∙ (one_row up ts (f == g) (is_among g fs) (get nat_cmp old g) (λ same. subst (λ k. is_among k fs ≡ false) (eqb-true f g same) absent)
    ∙ ap (λ k. cond k (option_map (told_row up ts) (get nat_cmp old g)) (get nat_cmp old g)) (sym (list_any-append (λ k. k == g) fs (f ∷ [])))))

-- Their count

count_append : (up : ℕ → List ℕ) (ts : List RealmRecord) (old : Files) (fs : List ℕ) (f : ℕ)
    → count_changed up ts old (fs ++ f ∷ []) ≡ count_changed up ts old fs + cond (needs_at up ts (get nat_cmp old f)) 1 0
count_append up ts old [] f = omega arith
count_append up ts old (x ∷ xs) f = omega (arith, count_append up ts old xs f)

at_most_one : (b : Bool) (m k : ℕ) → m ≤ k → cond b 1 0 + m ≤ suc k
at_most_one true m k small = omega arith
at_most_one false m k small = omega arith

pub count_small : (up : ℕ → List ℕ) (ts : List RealmRecord) (old : Files) (fs : List ℕ) → count_changed up ts old fs ≤ length fs
count_small up ts old [] = omega arith
count_small up ts old (f ∷ fs) = at_most_one (needs_at up ts (get nat_cmp old f)) (count_changed up ts old fs) (length fs) (count_small up ts old fs)

byte_of : (b : Bool) → bool_byte b ≡ cond b 1 0
byte_of true = refl
byte_of false = refl

pub byte_small : (b : Bool) → bool_byte b ≤ 1
byte_small true = omega arith
byte_small false = omega arith

pub next_count : (up : ℕ → List ℕ) (ts : List RealmRecord) (old mid new : Files) (fs : List ℕ) (f count : ℕ) (b : Bool) → ChangesAll up ts old mid fs
    → ChangesRow up ts mid new f b → is_among f fs ≡ false → count ≡ count_changed up ts old fs → count + bool_byte b ≡ count_changed up ts old (fs ++ f ∷ [])
next_count up ts old mid new fs f count b all one absent is =
    let need : b ≡ needs_at up ts (get nat_cmp old f) = one.answer ∙ ap (needs_at up ts) (same_before up ts old mid fs f all absent) in
    ap (λ k. count + k) (byte_of b) ∙ rw (is, need) (sym (count_append up ts old fs f))
