-- The roles and the sums over the views of all seats, where one view changes or one seat comes.
use Rattle.std.proofs.Common.{◌≡◌, ◌≢◌, ◌⊎◌, ℕ, zero, suc, ◌+◌, ◌<◌, ◌≤◌, List, [], ◌∷◌, length, get_or, set, sum_by, sym, ap, ◌∙◌, inl, inr, ⊎_elim, subst, arith}
use Rattle.std.proofs.lemmas.List.Sums.{sum_by-set, get_or-le-sum_by, sum_by-cons}
use mathlib.Core.Option.{some, some-injective, some-ne-none}
use lib.ListN.{get_elem?}
use mathlib.Core.Logic.{dite}
use native.Mathlib.Decide.{ℕ_discrete}
use Rattle.atomic_table.proofs.Lists.{at_set, set_else, set_here}
use Rattle.cs_gate.specs.declared.views.PassState.TheVariants.{Out, Turning, Inside}
use Rattle.cs_gate.specs.declared.views.Role.{Role}
use Rattle.cs_gate.specs.declared.views.Role.TheVariants as roles
use Rattle.cs_gate.specs.declared.views.View.{View}
use Rattle.cs_gate.specs.Gate.{HasRole, weight, counted_passes}

-- what stands at a place
pub stands : (l : List View) (i : ℕ) (v : View) → get_elem? l i ≡ some v → (i < length l) × (get_or l i v ≡ v)
stands [] i v e = absurd (some-ne-none v (sym e))
stands (x ∷ xs) zero v e = (omega arith, some-injective x v e)
stands (x ∷ xs) (suc i) v e = let r = stands xs i v e in (omega (arith, r.0), r.1)

-- a sum over the views after one changed
pub sum_by-changed : (f : View → ℕ) (l : List View) (i : ℕ) (v w : View) → get_elem? l i ≡ some v → sum_by f (set l i w) + f v ≡ sum_by f l + f w
sum_by-changed f l i v w e = let at = stands l i v e in subst (λ (u : View). sum_by f (set l i w) + f u ≡ sum_by f l + f w) at.1 (sum_by-set f l i w v at.0)

-- one term is part of a sum
pub term-le : (f : View → ℕ) (l : List View) (i : ℕ) (v : View) → get_elem? l i ≡ some v → f v ≤ sum_by f l
term-le f l i v e = let at = stands l i v e in subst (λ (u : View). f u ≤ sum_by f l) at.1 (get_or-le-sum_by f l i v at.0)

weight-le : (r : Role) → weight r ≤ 1
weight-le (roles.Pass Out) = omega arith
weight-le (roles.Pass Turning) = omega arith
weight-le (roles.Pass (Inside g)) = omega arith
weight-le (roles.Keeper k) = omega arith
weight-le roles.Spent = omega arith

-- each seat adds at most 1 to the count
pub counted_passes-le : (l : List View) → counted_passes l ≤ length l
counted_passes-le [] = omega arith
counted_passes-le (x ∷ xs) = omega (arith, sum_by-cons (λ (v : View). weight v.role) x xs, weight-le x.role, counted_passes-le xs)

-- after one view changed, a role is that of the changed seat or was there before
pub role_in_changed : (l : List View) (i j : ℕ) (w : View) (role : Role) → HasRole (set l i w) j role → ((j ≡ i) × (w.role ≡ role)) ⊎ ((j ≢ i) × HasRole l j role)
role_in_changed l i j w role (u, at, is) = ⊎_elim (λ (t : (j ≡ i) × (w ≡ u)). inl (t.0, ap (λ (x : View). x.role) t.1 ∙ is)) (λ (t : (j ≢ i) × (get_elem? l j ≡ some u)). inr (t.0, (u, t.1, is))) (at_set l i j w u at)

-- a seat that did not change keeps its role
pub role_kept : (l : List View) (i j : ℕ) (w : View) (role : Role) → j ≢ i → HasRole l j role → HasRole (set l i w) j role
role_kept l i j w role apart (u, at, is) = (u, set_else l i j w apart ∙ at, is)

-- the seat that changed has its new role
pub role_given : (l : List View) (i : ℕ) (v w : View) (role : Role) → get_elem? l i ≡ some v → w.role ≡ role → HasRole (set l i w) i role
role_given l i v w role at is = (w, set_here l i w (stands l i v at).0, is)

-- a seat has one role
pub role_one : (l : List View) (i : ℕ) (v : View) (role : Role) → get_elem? l i ≡ some v → HasRole l i role → v.role ≡ role
role_one l i v role at (u, at', is) = ap (λ (x : View). x.role) (some-injective v u (sym at ∙ at')) ∙ is

-- where a seat's view changes and its role doesn't, each seat keeps its role
pub keeps_role : (l : List View) (i j : ℕ) (v w : View) (role : Role) → get_elem? l i ≡ some v → w.role ≡ v.role → HasRole l j role → HasRole (set l i w) j role
keeps_role l i j v w role at same h = dite (ℕ_discrete j i)
    (λ here. subst (λ (n : ℕ). HasRole (set l i w) n role) (sym here) (role_given l i v w role at (same ∙ role_one l i v role at (subst (λ (n : ℕ). HasRole l n role) here h))))
    (λ apart. role_kept l i j w role apart h)
