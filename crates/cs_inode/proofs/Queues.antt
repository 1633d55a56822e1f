-- Lists that aren't empty.
use Rattle.std.proofs.Common.{◌≡◌, ℕ, ◌||◌, ◌==◌, true, cond, not, List, [], ◌∷◌, Option, Some, None, is_some, is_none, length, slice_get, refl, arith}
use Rattle.std.proofs.lemmas.Bool.Decides.{nat_tests}
use Rattle.std.specs.List.{cons_option}
use Rattle.std.specs.Option.{option_map}
use Rattle.cs_ids.specs.declared.objects.FileMeta.{FileMeta}
use Rattle.cs_capsnap.specs.declared.snap.CapSnap.{CapSnap}
use Rattle.cs_capsnap.specs.CapSnaps.{first_follows, first_unsent, follows, unacked}
use Rattle.cs_inode.specs.Inodes.{has_any}

-- the first cap snap is unsent or sent
pub unsent_or_sent : (xs : List CapSnap) → (is_some (first_follows xs) || is_some (slice_get (unacked xs) 0)) ≡ has_any xs
unsent_or_sent [] = refl
unsent_or_sent (x ∷ xs) = at x.tid
  where
    at : (t : Option ℕ) → (is_some (option_map follows (cond (is_none t) (Some x) (first_unsent xs)))
        || is_some (slice_get (cons_option (option_map {U = ℕ × ℕ × FileMeta} (λ n. (n, follows x, x.meta)) t) (unacked xs)) 0)) ≡ true
    at None = refl
    at (Some n) = grind arith

pub some_long : {A : Type 0} (xs : List A) → (length xs == 0) ≡ not (has_any xs)
some_long [] = refl
some_long (x ∷ xs) = grind (arith, nat_tests)
