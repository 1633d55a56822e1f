-- The objects of a store by their keys.
use Rattle.std.proofs.Common.{◌≡◌, ◌∙◌, sym, refl, ap, ℕ, ◌+◌, ◌==◌, ◌&&◌, Bool, true, false, cond, Option, Some, List, [], ◌∷◌, ◌++◌, reverse, nat_eq, unwrap_or, slice_index, EachIndex, arith}
use Rattle.std.specs.HashMap.{HashMap, get_by}
use Rattle.std.specs.HashSet.{HashSet, contains}
use Rattle.std.proofs.lemmas.Grind.{common_steps}
use Rattle.cs_ids.specs.declared.objects.Obj.{Obj}
use Rattle.cs_laws.specs.declared.objects.At.{At}
use Rattle.cs_laws.specs.declared.objects.At.TheVariants as at
use Rattle.cs_laws.specs.declared.objects.ObjOp.{ObjOp}
use Rattle.cs_laws.specs.Objects.{byte_of, object, operations_at, same_object}
use Rattle.cs_objstore.specs.Blocks.{byte_in}
use Rattle.cs_objstore.specs.Found.{Stands, versions_of}
use Rattle.cs_objstore.specs.Kept.{Keeps, Span, spans}
use Rattle.cs_objstore.specs.Stores.{ReadsObject}
use Rattle.cs_objstore.specs.Versions.{image_at, AreSame}
use Rattle.cs_objstore.specs.declared.memory.Key.{Key}
use Rattle.cs_objstore.specs.declared.object.Version.{Version}
use Rattle.cs_objstore.proofs.Kept.{reads_state, state}
use Rattle.cs_objstore.proofs.Same.{keeps_same}
use Rattle.cs_objstore.proofs.Tids.{has_tid_pushed, reverse_pushed}

-- what is found under a key
pub found_is : {S : Type 0} (key : Key) (obj : Obj) (m : HashMap Key (List Version) S) (o : Option (List Version)) → key.ino ≡ obj.ino → key.index ≡ obj.index
    → o ≡ get_by (λ (k : Key). (key.ino == k.ino) && (key.index == k.index)) m → unwrap_or o [] ≡ versions_of obj m
found_is key obj m o ino index is =
    ap (λ o. unwrap_or o []) is
    ∙ (ap (λ n. unwrap_or (get_by (λ (k : Key). (n == k.ino) && (key.index == k.index)) m) []) ino
    ∙ ap (λ n. unwrap_or (get_by (λ (k : Key). (obj.ino == k.ino) && (n == k.index)) m) []) index)

state_is : (a : At) (obj : Obj) (ops : List ObjOp) → state a (object obj ops) ≡ operations_at a obj ops
state_is at.Head obj ops = refl
state_is (at.Snap s) obj ops = refl

-- what is read from an object's version
pub reads_object : (a : At) (obj : Obj) (ops view : List ObjOp) (vs found : List Version) (off : ℕ) (out mid : List ℕ) → out ≡ mid → ops ≡ view
    → found ≡ vs → Keeps vs (spans (object obj (reverse ops))) → EachIndex mid (λ k. slice_index mid k ≡ byte_in (image_at a found) (off + k))
    → ReadsObject (reverse view) obj a off out
reads_object a obj ops view vs found off out mid same seen is keeps reads =
    rw (same, ← seen) (λ k h.
    reads k h
    ∙ (ap (λ vs. byte_in (image_at a vs) (off + k)) is
    ∙ (reads_state a vs (object obj (reverse ops)) (off + k) keeps ∙ ap (λ os. byte_of os (off + k)) (state_is a obj (reverse ops)))))

same_found : {S : Type 0} (a b : Obj) (m : HashMap Key (List Version) S) → same_object a b ≡ true → versions_of a m ≡ versions_of b m
same_found a b m same =
    let ino : a.ino ≡ b.ino = grind (arith, common_steps, same) in
    let index : a.index ≡ b.index = grind (arith, common_steps, same) in
    ap (λ n. unwrap_or (get_by (λ (k : Key). (n == k.ino) && (a.index == k.index)) m) []) ino
    ∙ ap (λ n. unwrap_or (get_by (λ (k : Key). (b.ino == k.ino) && (n == k.index)) m) []) index

-- ---- an entry of the table

-- what an entry has, or is made with
pub entry_is : {S : Type 0} (key : Key) (obj : Obj) (m : HashMap Key (List Version) S) (o : Option (List Version)) (made old : List Version)
    → key.ino ≡ obj.ino → key.index ≡ obj.index → o ≡ get_by (λ (k : Key). (key.ino == k.ino) && (key.index == k.index)) m → made ≡ [] → old ≡ unwrap_or o made
    → old ≡ versions_of obj m
entry_is key obj m o made old ino index is none was = was ∙ (ap (λ d. unwrap_or o d) none ∙ found_is key obj m o ino index is)

some_put : (b : Bool) (w : List Version) (o : Option (List Version)) → unwrap_or (cond b (Some w) o) [] ≡ cond b w (unwrap_or o [])
some_put true w o = refl
some_put false w o = refl

-- what is found once an entry is written
put_found : {S : Type 0} (key : Key) (at obj : Obj) (m n : HashMap Key (List Version) S) (w : List Version) → key.ino ≡ at.ino → key.index ≡ at.index
    → get_by (λ (k : Key). (obj.ino == k.ino) && (obj.index == k.index)) n
    ≡ cond ((key.ino == obj.ino) && (key.index == obj.index)) (Some w) (get_by (λ (k : Key). (obj.ino == k.ino) && (obj.index == k.index)) m)
    → versions_of obj n ≡ cond (same_object at obj) w (versions_of obj m)
put_found key at obj m n w ino index is =
    ap (λ o. unwrap_or o []) is
    ∙ (some_put ((key.ino == obj.ino) && (key.index == obj.index)) w (get_by (λ (k : Key). (obj.ino == k.ino) && (obj.index == k.index)) m)
    ∙ (ap (λ i. cond ((i == obj.ino) && (key.index == obj.index)) w (versions_of obj m)) ino
    ∙ ap (λ i. cond ((at.ino == obj.ino) && (i == obj.index)) w (versions_of obj m)) index))

-- an entry that has the bytes that it had
put_same : {S : Type 0} (at obj : Obj) (m : HashMap Key (List Version) S) (w : List Version) (ss : List Span) (b : Bool) → same_object at obj ≡ b
    → AreSame (versions_of at m) w → Keeps (versions_of obj m) ss → Keeps (cond b w (versions_of obj m)) ss
put_same at obj m w ss true same is k = keeps_same (versions_of at m) w ss is (rw (same_found at obj m same) k)
put_same at obj m w ss false same is k = k

-- what a table has under each key, where one key was given an object
abbrev pub Puts : {S : Type 0} → Key → List Version → HashMap Key (List Version) S → HashMap Key (List Version) S → Type 0
Puts key w m n = (obj : Obj) → get_by (λ (k : Key). (obj.ino == k.ino) && (obj.index == k.index)) n
    ≡ cond ((key.ino == obj.ino) && (key.index == obj.index)) (Some w) (get_by (λ (k : Key). (obj.ino == k.ino) && (obj.index == k.index)) m)

-- an object that was found is put back with the bytes that it had
pub stands_same : {S T : Type 0} (ops new : List ObjOp) (key : Key) (at : Obj) (w : List Version) (m n : HashMap Key (List Version) S) (t u : HashSet ℕ T)
    → Stands ops m t → new ≡ ops → key.ino ≡ at.ino → key.index ≡ at.index → AreSame (versions_of at m) w → Puts key w m n
    → ((tid : ℕ) → contains nat_eq u tid ≡ contains nat_eq t tid) → Stands new n u
stands_same ops new key at w m n t u stands is ino index same puts numbers =
    rw is record {
      kept = λ obj. rw (put_found key at obj m n w ino index (puts obj))
          (put_same at obj m w (spans (object obj (reverse ops))) (same_object at obj) refl same (stands.kept obj));
      numbers = λ tid. numbers tid ∙ stands.numbers tid;
    }

kept_by : (obj : Obj) (op : ObjOp) (ops : List ObjOp) (b : Bool) (w vs : List Version) → same_object op.obj obj ≡ b → Keeps vs (spans (object obj ops))
    → (b ≡ true → Keeps w (spans (op ∷ object obj ops))) → Keeps (cond b w vs) (spans (object obj (op ∷ ops)))
kept_by obj op ops true w vs is keeps written = rw is (written refl)
kept_by obj op ops false w vs is keeps written = rw is keeps

-- one object is written
pub stands_written : {S T : Type 0} (ops new : List ObjOp) (key : Key) (op : ObjOp) (w : List Version) (m n : HashMap Key (List Version) S) (t u : HashSet ℕ T)
    → Stands ops m t → new ≡ ops ++ op ∷ [] → ((tid : ℕ) → contains nat_eq u tid ≡ cond (op.tid == tid) true (contains nat_eq t tid))
    → key.ino ≡ op.obj.ino → key.index ≡ op.obj.index
    → ((os : List ObjOp) → Keeps (versions_of op.obj m) (spans os) → Keeps w (spans (op ∷ os))) → Puts key w m n → Stands new n u
stands_written ops new key op w m n t u stands is numbers ino index written puts =
    rw is record {
      kept = λ obj. rw (reverse_pushed, put_found key op.obj obj m n w ino index (puts obj))
          (kept_by obj op (reverse ops) (same_object op.obj obj) w (versions_of obj m) refl (stands.kept obj)
          (λ same. written (object obj (reverse ops)) (rw (same_found op.obj obj m same) (stands.kept obj))));
      numbers = λ tid. numbers tid ∙ (ap (λ b. cond (op.tid == tid) true b) (stands.numbers tid) ∙ sym (has_tid_pushed ops op tid));
    }

-- a table that has the same objects
pub stands_still : {S T : Type 0} (ops : List ObjOp) (m n : HashMap Key (List Version) S) (t u : HashSet ℕ T) → Stands ops m t
    → ((obj : Obj) → versions_of obj n ≡ versions_of obj m) → ((tid : ℕ) → contains nat_eq u tid ≡ contains nat_eq t tid) → Stands ops n u
stands_still ops m n t u stands same numbers =
    record {
      kept = λ obj. rw (same obj) (stands.kept obj);
      numbers = λ tid. numbers tid ∙ stands.numbers tid;
    }
