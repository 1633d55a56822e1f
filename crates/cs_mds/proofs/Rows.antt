-- Tables that get a row.
use Rattle.std.proofs.Common.{◌≡◌, ◌∙◌, refl, sym, subst, ap, ℕ, ◌==◌, Bool, true, false, cond, Option, Some, None, is_some, unwrap_or, List}
use Rattle.std.proofs.lemmas.Bool.{eqb-true}
use Rattle.std.specs.BTreeMap.{get}
use Rattle.std.specs.Ordering.{nat_cmp}
use Rattle.cs_parts.specs.declared.capabilities.ServerCaps.{ServerCaps}
use Rattle.cs_parts.specs.Capabilities.{no_server_caps}
use Rattle.cs_tree.specs.declared.directories.Directory.{Directory}
use Rattle.cs_tree.specs.Directories.{has_directory}
use Rattle.cs_mds.specs.Served.{SameCaps}
use Rattle.cs_mds.specs.Views.{AreIn, Caps, Homes, caps_of}

none_is : (o : Option ServerCaps) → is_some o ≡ false → no_server_caps ≡ unwrap_or o no_server_caps
none_is None is = refl
none_is (Some s) is = absurd cc

-- a file that had no row gets one without capabilities
pub same_caps : (old new : Caps) (f : ℕ) → is_some (get nat_cmp old f) ≡ false
    → ((g : ℕ) → get nat_cmp new g ≡ cond (f == g) (Some no_server_caps) (get nat_cmp old g)) → SameCaps old new
same_caps old new f none put g = ap (λ o. unwrap_or o no_server_caps) (put g) ∙ at (f == g) refl
  where
    at : (b : Bool) → (f == g) ≡ b → unwrap_or (cond b (Some no_server_caps) (get nat_cmp old g)) no_server_caps ≡ caps_of g old
    at true is = none_is (get nat_cmp old g) (subst (λ n. is_some (get nat_cmp old n) ≡ false) (eqb-true f g is) none)
    at false is = refl

-- a file gets a home that is a directory
pub put_in : (tree : List Directory) (old new : Homes) (f p : ℕ) → has_directory p tree ≡ true
    → ((g : ℕ) → get nat_cmp new g ≡ cond (f == g) (Some p) (get nat_cmp old g)) → AreIn tree old → AreIn tree new
put_in tree old new f p there put are g d is = at (f == g) (sym (put g) ∙ is)
  where
    at : (b : Bool) → cond b (Some p) (get nat_cmp old g) ≡ Some d → has_directory d tree ≡ true
    at true same = subst (λ e. has_directory e tree ≡ true) (cc) there
    at false same = are g d same
