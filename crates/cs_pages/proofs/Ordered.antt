-- Pages in the order of their numbers are what a look-up by number finds.
use Rattle.std.proofs.Common.{◌≡◌, refl, sym, ap, ◌∙◌, ℕ, zero, suc, ◌+◌, ◌<◌, ◌≤◌, true, false, List, [], ◌∷◌, Option, Some, None, arith, subst, ⊎_elim, length, nat_cmp}
use Rattle.std.specs.Ordering.{is_eq}
use Rattle.std.specs.List.Sorted.{IsStrictlySortedBy}
use Rattle.std.specs.Map.{keys_of}
use Rattle.std.specs.List.{AllByRecursion}
use Rattle.std.specs.BTreeMap.{BTreeMap, IsOrdered}
use Rattle.std.specs.declared.cmp.Ordering.TheVariants.{Less}
use Rattle.std.proofs.lemmas.Map.Keys.{sorted_head, sorted_tail}
use Rattle.std.proofs.lemmas.Map.Views.{All-found}
use Rattle.std.proofs.lemmas.List.Elements.{recursion_from_All}
use Rattle.std.proofs.lemmas.Cmp.{nat_cmp_total}
use Rattle.std.proofs.lemmas.Bool.{cases_eq, cases_lt, cond-true, cond-false}
use Rattle.std.proofs.lemmas.Bool.Decides.{nat_tests}
use Rattle.cs_states.specs.PageLists.{Pages, Ascend, listed, with_cached}
use Rattle.cs_states.proofs.Listed.{listed_same}
use Rattle.cs_pages.specs.declared.page.Owed.{Owed}
use Rattle.cs_pages.specs.declared.page.Page.{Page}
use Rattle.cs_pages.specs.Page.{sent_state, owed_state, page_state, state_of}
use Rattle.cs_pages.specs.Pages.{page_at, state_at, states, IsBelow, IsKept}

pub is_same : (p k : ℕ) → p ≡ k → is_eq (nat_cmp p k) ≡ true
is_same p k e = grind (arith, nat_tests)

pub is_other : (p k : ℕ) → (p ≡ k → ⊥) → is_eq (nat_cmp p k) ≡ false
is_other p k e = grind (arith, nat_tests)

pub at_head : (e : ℕ × Page) (es : List (ℕ × Page)) (p : ℕ) → p ≡ e.0 → page_at (e ∷ es) p ≡ Some e.1
at_head e es p same = cond-true (is_eq (nat_cmp p e.0)) (Some e.1) (page_at es p) (is_same p e.0 same)

pub at_tail : (e : ℕ × Page) (es : List (ℕ × Page)) (p : ℕ) → (p ≡ e.0 → ⊥) → page_at (e ∷ es) p ≡ page_at es p
at_tail e es p other = cond-false (is_eq (nat_cmp p e.0)) (Some e.1) (page_at es p) (is_other p e.0 other)

-- a number below all has no page
pub none_below : (low high p : ℕ) (es : List (ℕ × Page)) → p < low → Ascend low high (states es) → page_at es p ≡ None
none_below low high p [] l a = refl
none_below low high p (e ∷ es) l a =
    at_tail e es p (λ s. absurd (omega (arith, a.0)))
    ∙ none_below (e.0 + 1) high p es (omega (arith, a.0)) a.2

-- a cached page is listed
sent_listed : (p q : ℕ) (t : Option ℕ) (es : Pages) → with_cached p (sent_state q t) es ≡ (p, sent_state q t) ∷ es
sent_listed p q None es = refl
sent_listed p q (Some t) es = refl

owed_listed : (p : ℕ) (o : Option Owed) (es : Pages) → with_cached p (owed_state o) es ≡ (p, owed_state o) ∷ es
owed_listed p None es = refl
owed_listed p (Some o) es = sent_listed p o.context.seq o.tid es

later_on : (p high : ℕ) (e : ℕ × Page) (es : List (ℕ × Page)) → (e.0 ≡ p → ⊥) → Ascend p high (states (e ∷ es)) → Ascend (p + 1) high (states (e ∷ es))
later_on p high e es there a = (omega (arith, a.0), a.1, a.2)

listed_is : (n p : ℕ) (es : List (ℕ × Page)) → Ascend p (p + n) (states es) → listed n p (state_at es) ≡ states es
unfolding listed
listed_is zero p [] a = refl
listed_is zero p (e ∷ es) a = absurd (omega (arith, a.0, a.1))
listed_is (suc n) p [] a = listed_is n (p + 1) [] tt
listed_is (suc n) p (e ∷ es) a = ⊎_elim
    (λ here.
    ap (λ x. with_cached p (state_of x) (listed n (p + 1) (state_at (e ∷ es)))) (at_head e es p (sym here))
    ∙ (owed_listed p e.1.owed (listed n (p + 1) (state_at (e ∷ es)))
    ∙ (ap (λ xs. (p, page_state e.1) ∷ xs) (listed_same n (p + 1) (state_at (e ∷ es)) (state_at es)
    (λ q l. ap state_of (at_tail e es q (λ s. absurd (omega arith))))
    ∙ listed_is n (p + 1) es (subst (λ v. Ascend v (p + 1 + n) (states es)) (ap (λ v. v + 1) here) (subst (λ v. Ascend (e.0 + 1) v (states es)) (omega arith) a.2)))
    ∙ ap (λ v. (v, page_state e.1) ∷ states es) (sym here))))
    (λ there.
    ap (λ x. with_cached p (state_of x) (listed n (p + 1) (state_at (e ∷ es)))) (none_below (p + 1) (p + suc n) p (e ∷ es) (omega arith) (later_on p (p + suc n) e es there a))
    ∙ listed_is n (p + 1) (e ∷ es) (subst (λ v. Ascend (p + 1) v (states (e ∷ es))) (omega arith) (later_on p (p + suc n) e es there a)))
    (cases_eq e.0 p)

-- From a map, whose keys ascend

less_of : (k y : ℕ) → nat_cmp k y ≡ Less → k + 1 ≤ y
less_of k y e = grind (arith, nat_tests)

after_all : (k : ℕ) (ks : List ℕ) → AllByRecursion (λ y. nat_cmp k y ≡ Less) ks → AllByRecursion (λ y. k + 1 ≤ y) ks
after_all k [] a = tt
after_all k (y ∷ ys) a = (less_of k y a.0, after_all k ys a.1)

from_zero : (ks : List ℕ) → AllByRecursion (λ y. 0 ≤ y) ks
from_zero [] = tt
from_zero (y ∷ ys) = (omega arith, from_zero ys)

ascend_from : (low high : ℕ) (es : List (ℕ × Page)) → IsStrictlySortedBy nat_cmp (keys_of es) → AllByRecursion (λ y. low ≤ y) (keys_of es) → AllByRecursion (λ (e : ℕ × Page). e.0 < high) es → Ascend low high (states es)
ascend_from low high [] sorted a b = tt
ascend_from low high (e ∷ es) sorted a b =
    (a.0, b.0, ascend_from (e.0 + 1) high es (sorted_tail nat_cmp e.0 (keys_of es) sorted) (after_all e.0 (keys_of es) (sorted_head nat_cmp e.0 (keys_of es) sorted)) b.1)

all_below : (n : ℕ) (all es : List (ℕ × Page)) → IsBelow n all → AllByRecursion (λ (e : ℕ × Page). page_at all e.0 ≡ Some e.1) es → AllByRecursion (λ (e : ℕ × Page). e.0 < n) es
all_below n all [] below found = tt
all_below n all (e ∷ es) below found = (⊎_elim (λ l. l) (λ g. let none : page_at all e.0 ≡ None = below e.0 g in let some : page_at all e.0 ≡ Some e.1 = found.0 in cc) (cases_lt e.0 n), all_below n all es below found.1)

pub ascending : (m : BTreeMap ℕ Page) → IsOrdered nat_cmp m → IsKept m.entries → Ascend 0 256 (states m.entries)
ascending m ordered kept = ascend_from 0 256 m.entries ordered (from_zero (keys_of m.entries))
    (all_below 256 m.entries m.entries kept.below (recursion_from_All (λ (e : ℕ × Page). page_at m.entries e.0 ≡ Some e.1) m.entries (All-found nat_cmp_total m ordered)))

pub listed_states : (m : BTreeMap ℕ Page) → IsOrdered nat_cmp m → IsKept m.entries → listed 256 0 (state_at m.entries) ≡ states m.entries
listed_states m ordered kept = listed_is 256 0 m.entries (ascending m ordered kept)

few_from : (low high : ℕ) (es : List (ℕ × Page)) → low ≤ high → Ascend low high (states es) → length es + low ≤ high
few_from low high [] l a = omega arith
few_from low high (e ∷ es) l a = omega (arith, a.0, a.1, few_from (e.0 + 1) high es (omega (arith, a.1)) a.2)

pub few : (m : BTreeMap ℕ Page) → IsOrdered nat_cmp m → IsKept m.entries → length m.entries ≤ 256
few m ordered kept = omega (arith, few_from 0 256 m.entries (omega arith) (ascending m ordered kept))
