-- Directories and files that answers make known.
use Rattle.std.proofs.Common.{◌≡◌, ◌∙◌, sym, ap, subst, ℕ, ◌==◌, ◌||◌, Bool, true, false, cond, refl, List, ◌∷◌, Some}
use Rattle.std.proofs.lemmas.Bool.{eqb-true}
use Rattle.std.specs.BTreeMap.{get}
use Rattle.std.specs.Ordering.{nat_cmp}
use Rattle.cs_laws.specs.Context.{path_context}
use Rattle.cs_laws.specs.Made.{Made}
use Rattle.cs_snapctx.specs.declared.realm.RealmRecord.{RealmRecord}
use Rattle.cs_tree.specs.declared.directories.Directory.{Directory}
use Rattle.cs_tree.specs.Directories.{has_directory, path_of}
use Rattle.cs_client.specs.declared.file.ClientFile.{ClientFile}
use Rattle.cs_client.specs.Calls.{AddsDirectory, IsNewIn}
use Rattle.cs_client.specs.Contexts.{home_context}
use Rattle.cs_client.specs.Rows.{new_file}
use Rattle.cs_client.specs.Views.{ContextsFollow, Files, HaveHomes, is_kept}
use Rattle.cs_client.proofs.Made.{AddsRow}

abbrev pub dir_made : ℕ → ℕ → Made
dir_made i d = record { ino = i; dir = d; is_dir = true }

abbrev pub file_made : ℕ → ℕ → Made
file_made i d = record { ino = i; dir = d; is_dir = false }

neither : (a b : Bool) → (a || b) ≡ false → (a ≡ false) × (b ≡ false)
neither true b e = absurd (cc)
neither false b e = (refl, e)

pub new_directory : (i d : ℕ) (tree : List Directory) (files : Files) → IsNewIn i d tree files → has_directory i tree ≡ false
new_directory i d tree files is = (neither (has_directory i tree) (is_kept files i) is.unused).0

pub new_file_row : (i d : ℕ) (tree : List Directory) (files : Files) → IsNewIn i d tree files → is_kept files i ≡ false
new_file_row i d tree files is = (neither (has_directory i tree) (is_kept files i) is.unused).1

pub file_homes : (tree : List Directory) (ts : List RealmRecord) (old new : Files) (i d : ℕ) → has_directory d tree ≡ true
    → AddsRow old new i (new_file i d (home_context tree ts d)) → HaveHomes tree old → HaveHomes tree new
file_homes tree ts old new i d known adds homes f r is = at (i == f) (sym (adds f) ∙ is)
  where
    own : ClientFile
    own = new_file i d (home_context tree ts d)

    at : (b : Bool) → cond b (Some own) (get nat_cmp old f) ≡ Some r → has_directory r.home tree ≡ true
    at true e = let now : own ≡ r = cc in subst (λ (x : ClientFile). has_directory x.home tree ≡ true) now known
    at false e = homes f r e

-- the path of a directory that was known stays
path_stays : (old new : List Directory) (i d e : ℕ) → AddsDirectory i d old new → has_directory i old ≡ false → has_directory e old ≡ true
    → path_of new e ≡ path_of old e
path_stays old new i d e adds new_one known = adds.paths e ∙ at (i == e) refl
  where
    at : (b : Bool) → (i == e) ≡ b → cond b (i ∷ path_of old d) (path_of old e) ≡ path_of old e
    at true same = let never : true ≡ false = sym known ∙ (ap (λ k. has_directory k old) (sym (eqb-true i e same)) ∙ new_one) in absurd (cc)
    at false other = refl

pub directory_follow : (old new : List Directory) (ts : List RealmRecord) (files : Files) (i d : ℕ) → AddsDirectory i d old new
    → has_directory i old ≡ false → HaveHomes old files → ContextsFollow old ts files → ContextsFollow new ts files
directory_follow old new ts files i d adds new_one homes follow f r is =
    follow f r is ∙ ap (λ up. path_context up ts) (sym (path_stays old new i d r.home adds new_one (homes f r is)))
