-- The page that is sent in an operation.
use Rattle.std.proofs.Common.{◌≡◌, ◌≢◌, refl, sym, ap, ◌∙◌, ℕ, ◌+◌, Bool, true, false, cond, List, [], ◌∷◌, Option, Some, None, arith, ◌⊎◌, ⊎_elim, inl, inr, find, nat_cmp}
use Rattle.std.specs.Option.{option_map}
use Rattle.std.specs.BTreeMap.{BTreeMap, IsOrdered}
use Rattle.std.proofs.lemmas.Bool.{cases_eq}
use Rattle.cs_states.specs.PageState.{is_in}
use Rattle.cs_states.specs.PageLists.{Ascend}
use Rattle.cs_pages.specs.declared.page.Page.{Page}
use Rattle.cs_pages.specs.Page.{page_state, state_of}
use Rattle.cs_pages.specs.Pages.{state_at, states, page_in, IsKept}
use Rattle.cs_pages.proofs.Ordered.{at_head, at_tail, none_below, ascending}

found_cons : (b : Bool) (e : ℕ × Page) (o : Option (ℕ × Page)) (p : ℕ) → option_map (λ x. x.0) (cond b (Some e) o) ≡ Some p → ((b ≡ true) × (e.0 ≡ p)) ⊎ ((b ≡ false) × (option_map (λ x. x.0) o ≡ Some p))
found_cons true e o p is = inl (refl, cc)
found_cons false e o p is = inr (refl, is)

none_cons : (b : Bool) (e : ℕ × Page) (o : Option (ℕ × Page)) → option_map (λ x. x.0) (cond b (Some e) o) ≡ None → (b ≡ false) × (option_map (λ x. x.0) o ≡ None)
none_cons true e o is = cc
none_cons false e o is = (refl, is)

found_from : (t low high : ℕ) (es : List (ℕ × Page)) (p : ℕ) → Ascend low high (states es) → page_in t es ≡ Some p → is_in t (state_at es p) ≡ true
found_from t low high [] p a is = cc
found_from t low high (e ∷ es) p a is = ⊎_elim
    (λ here. ap (λ x. is_in t (state_of x)) (at_head e es p (sym here.1)) ∙ here.0)
    (λ there.
    let rest : is_in t (state_at es p) ≡ true = found_from t (e.0 + 1) high es p a.2 there.1 in
    let other : p ≢ e.0 = λ same.
    let away : is_in t (state_at es p) ≡ false = ap (λ x. is_in t (state_of x)) (none_below (e.0 + 1) high p es (omega arith) a.2) in
    cc in
    ap (λ x. is_in t (state_of x)) (at_tail e es p other) ∙ rest)
    (found_cons (is_in t (page_state e.1)) e (find (λ x. is_in t (page_state x.1)) es) p is)

pub found_in : (t : ℕ) (m : BTreeMap ℕ Page) (p : ℕ) → IsOrdered nat_cmp m → IsKept m.entries → page_in t m.entries ≡ Some p → is_in t (state_at m.entries p) ≡ true
found_in t m p ordered kept is = found_from t 0 256 m.entries p (ascending m ordered kept) is

pub alone_in : (t : ℕ) (m : BTreeMap ℕ Page) (p q : ℕ) → IsOrdered nat_cmp m → IsKept m.entries → page_in t m.entries ≡ Some p → is_in t (state_at m.entries q) ≡ true → q ≡ p
alone_in t m p q ordered kept is there = kept.apart t q p there (found_in t m p ordered kept is)

pub none_in : (t : ℕ) (es : List (ℕ × Page)) (q : ℕ) → page_in t es ≡ None → is_in t (state_at es q) ≡ false
none_in t [] q is = refl
none_in t (e ∷ es) q is =
    let both = none_cons (is_in t (page_state e.1)) e (find (λ x. is_in t (page_state x.1)) es) is in
    ⊎_elim
    (λ here. ap (λ x. is_in t (state_of x)) (at_head e es q here) ∙ both.0)
    (λ there. ap (λ x. is_in t (state_of x)) (at_tail e es q there) ∙ none_in t es q both.1)
    (cases_eq q e.0)
