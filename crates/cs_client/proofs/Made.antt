-- One more file.
use Rattle.std.proofs.Common.{◌≡◌, ◌∙◌, refl, sym, ap, subst, ℕ, ◌<◌, ◌==◌, ◌||◌, Bool, true, false, cond, is_some, List, [], ◌∷◌, ◌++◌, length, Option, Some, arith, length-append}
use Rattle.std.proofs.lemmas.Bool.{eqb-true, false_from_ne_true}
use Rattle.std.proofs.lemmas.List.Folds.{list_any-append}
use Rattle.std.specs.BTreeMap.{get}
use Rattle.std.specs.Ordering.{nat_cmp}
use Rattle.cs_inode.specs.Inodes.{new_inode}
use Rattle.cs_parts.specs.declared.references.Live.{Live}
use Rattle.cs_snapctx.specs.Context.{Context}
use Rattle.cs_client.specs.declared.file.ClientFile.{ClientFile}
use Rattle.cs_client.specs.Rows.{new_file}
use Rattle.cs_client.specs.Views.{AreMade, AreTables, Files, IsRow, KeepsTables, is_among, is_kept, is_used}
use Rattle.cs_client.proofs.Counts.{unused_writers}
use Rattle.cs_client.proofs.Once.{once_more}

-- the table has the row at one more file
abbrev pub AddsRow : Files → Files → ℕ → ClientFile → Type 0
AddsRow old new g r = (f : ℕ) → get nat_cmp new f ≡ cond (g == f) (Some r) (get nat_cmp old f)

-- a file that isn't kept is used by no reference
unused : (old : Files) (g : ℕ) (rs : List Live) (sent : ℕ) → is_kept old g ≡ false → AreTables old rs sent → is_used g rs ≡ false
unused old g rs sent unkept t = false_from_ne_true (is_used g rs) (λ used. let never : true ≡ false = sym (t.lives g used) ∙ unkept in cc)

pub added_tables : (old new : Files) (g home : ℕ) (c : Context) → is_kept old g ≡ false → AddsRow old new g (new_file g home c) → KeepsTables old new
added_tables old new g home c unkept adds rs sent t = record {
  rows = λ f x is. row f x (g == f) refl (sym (adds f) ∙ is);
  lives = λ f used. ap is_some (adds f) ∙ some (g == f) (get nat_cmp old f) (t.lives f used);
}
  where
    some : (b : Bool) (o : Option ClientFile) → is_some o ≡ true → is_some (cond b (Some (new_file g home c)) o) ≡ true
    some true o has = refl
    some false o has = has

    own : IsRow rs sent g (new_inode g c)
    own = record { ino = refl; writers = sym (unused_writers g rs (unused old g rs sent unkept t)); tids = omega arith; size = omega arith }

    row : (f : ℕ) (x : ClientFile) (b : Bool) → (g == f) ≡ b → cond b (Some (new_file g home c)) (get nat_cmp old f) ≡ Some x → IsRow rs sent f x.inode
    row f x true same e =
        let now : ◌≡◌ {A = ClientFile} (new_file g home c) x = cc in
        subst (λ k. IsRow rs sent k x.inode) (eqb-true g f same) (subst (λ (y : ClientFile). IsRow rs sent g y.inode) now own)
    row f x false other e = t.rows f x e

or_true : (a : Bool) → true ≡ (a || true)
or_true true = refl
or_true false = refl

or_false : (a : Bool) → a ≡ (a || false)
or_false true = refl
or_false false = refl

pub added_made : (old new : Files) (g : ℕ) (r : ClientFile) (made : List ℕ) → is_kept old g ≡ false → AddsRow old new g r → AreMade old made
    → length made < 4294967295
    → AreMade new (made ++ g ∷ [])
added_made old new g r made unkept adds m room = record {
  listed = λ f.
      ap is_some (adds f) ∙ (at f (g == f) (get nat_cmp old f) (m.listed f) ∙ sym (list_any-append (λ k. k == f) made (g ∷ [])));
  once = once_more made g (sym (m.listed g) ∙ unkept) m.once;
  few = omega (arith, length-append made (g ∷ []), room);
}
  where
    at : (f : ℕ) (b : Bool) (o : Option ClientFile) → is_some o ≡ is_among f made → is_some (cond b (Some r) o) ≡ (is_among f made || (b || false))
    at f true o is = or_true (is_among f made)
    at f false o is = is ∙ or_false (is_among f made)
