-- What `pick` names.
use Rattle.std.proofs.Common.{◌≡◌, ◌≢◌, refl, sym, ap, ◌∙◌, ℕ, ◌+◌, ◌<◌, ◌≤◌, Bool, true, false, cond, [], ◌∷◌, Option, Some, None, min, arith, subst, Contains, IfSome, ◌⊎◌, ⊎_elim, inl, inr}
use Rattle.std.specs.List.{AllByRecursion}
use Rattle.std.proofs.lemmas.Bool.{cases_lt}
use Rattle.std.proofs.lemmas.Bool.Decides.{nat_tests}
use Rattle.std.proofs.lemmas.List.Elements.{Contains-append_right}
use Rattle.std.proofs.lemmas.List.Sums.{sum_by-cons}
use Rattle.cs_states.specs.declared.page.PageState.{PageState}
use Rattle.cs_states.specs.declared.page.PageState.TheVariants as states
use Rattle.cs_states.specs.declared.page.Pick.TheVariants as picks
use Rattle.cs_states.specs.PageState.{owed_seq, is_under, is_waiting}
use Rattle.cs_states.specs.PageLists.{Pages, Ascend, least, oldest, owed_under, first_waiting, pick, pick_of, pick_under, IsOldest, IsLowestOfOldest, OldestIsSent}

-- The oldest context

least_of_both : (q : ℕ) (a b : Option ℕ) → IfSome (least a b) (λ r. q ≤ r) → IfSome a (λ r. q ≤ r) × IfSome b (λ r. q ≤ r)
least_of_both q None b l = (tt, l)
least_of_both q (Some a) None l = (l, tt)
least_of_both q (Some a) (Some b) l = (omega arith, omega arith)

oldest_from : (q : ℕ) (es : Pages) → IfSome (oldest es) (λ r. q ≤ r) → IsOldest q es
oldest_from q [] l = tt
oldest_from q (e ∷ es) l =
    let both = least_of_both q (owed_seq e.1) (oldest es) l in
    (both.0, oldest_from q es both.1)

pub oldest_is : (q : ℕ) (es : Pages) → oldest es ≡ Some q → IsOldest q es
oldest_is q es is = oldest_from q es (subst (λ o. IfSome o (λ r. q ≤ r)) (sym is) (omega arith))

no_least : (a b : Option ℕ) → least a b ≡ None → (a ≡ None) × (b ≡ None)
no_least None b is = (refl, is)
no_least (Some a) None is = cc
no_least (Some a) (Some b) is = cc

pub none_owed : (es : Pages) → oldest es ≡ None → AllByRecursion (λ e. owed_seq e.1 ≡ None) es
none_owed [] is = tt
none_owed (e ∷ es) is =
    let both = no_least (owed_seq e.1) (oldest es) is in
    (both.0, none_owed es both.1)

none_least : (a b : Option ℕ) → a ≡ None → b ≡ None → least a b ≡ None
none_least None b here there = there
none_least (Some a) b here there = cc

pub nothing_oldest : (es : Pages) → AllByRecursion (λ e. owed_seq e.1 ≡ None) es → oldest es ≡ None
nothing_oldest [] a = refl
nothing_oldest (e ∷ es) a = none_least (owed_seq e.1) (oldest es) a.0 (nothing_oldest es a.1)

-- some page is owed under the oldest context

under_of : (q : ℕ) (s : PageState) → owed_seq s ≡ Some q → is_under q s ≡ true
under_of q states.Absent is = cc
under_of q states.Clean is = cc
under_of q (states.Dirty r) is = let same : r ≡ q = cc in grind (arith, nat_tests)
under_of q (states.Sent r t) is = let same : r ≡ q = cc in grind (arith, nat_tests)

one_more : (b : Bool) (n : ℕ) → b ≡ true → 0 < cond b 1 0 + n
one_more true n is = omega arith
one_more false n is = cc

no_fewer : (b : Bool) (n : ℕ) → 0 < n → 0 < cond b 1 0 + n
no_fewer true n l = omega arith
no_fewer false n l = omega arith

either_is : (a b : Option ℕ) (q : ℕ) → least a b ≡ Some q → (a ≡ Some q) ⊎ (b ≡ Some q)
either_is None b q is = inr is
either_is (Some a) None q is = inl is
either_is (Some a) (Some b) q is =
    let m : min a b ≡ q = cc in
    ⊎_elim (λ l. inl (ap Some (omega arith))) (λ g. inr (ap Some (omega arith))) (cases_lt a b)

pub some_under : (q : ℕ) (es : Pages) → oldest es ≡ Some q → 0 < owed_under q es
some_under q [] is = cc
some_under q (e ∷ es) is = subst (λ n. 0 < n) (sym (sum_by-cons (λ x. cond (is_under q x.1) 1 0) e es)) (⊎_elim
    (λ here. one_more (is_under q e.1) (owed_under q es) (under_of q e.1 here))
    (λ there. no_fewer (is_under q e.1) (owed_under q es) (some_under q es there))
    (either_is (owed_seq e.1) (oldest es) q is))

-- The lowest page of a context that isn't sent

dirty_of : (q : ℕ) (s : PageState) → is_waiting q s ≡ true → s ≡ states.Dirty q
dirty_of q states.Absent is = cc
dirty_of q states.Clean is = cc
dirty_of q (states.Dirty r) is = ap states.Dirty (grind (arith, nat_tests))
dirty_of q (states.Sent r t) is = cc

waiting_of : (q : ℕ) → is_waiting q (states.Dirty q) ≡ true
waiting_of q = grind (arith, nat_tests)

not_dirty : (q : ℕ) (s : PageState) → is_waiting q s ≡ false → s ≢ states.Dirty q
not_dirty q s not is =
    let yes : is_waiting q s ≡ true = ap (is_waiting q) is ∙ waiting_of q in
    cc

found_cases : {X : Type 0} (b : Bool) (x y : X) (o : Option X) → cond b (Some x) o ≡ Some y → ((b ≡ true) × (x ≡ y)) ⊎ ((b ≡ false) × (o ≡ Some y))
found_cases true x y o is = inl (refl, cc)
found_cases false x y o is = inr (refl, is)

none_cases : {X : Type 0} (b : Bool) (x : X) (o : Option X) → cond b (Some x) o ≡ None → (b ≡ false) × (o ≡ None)
none_cases true x o is = cc
none_cases false x o is = (refl, is)

head_in : (e : ℕ × PageState) (es : Pages) → Contains (e ∷ es) e
head_in e es = (0, omega arith, refl)

found_is_dirty : (q : ℕ) (es : Pages) (e : ℕ × PageState) → first_waiting q es ≡ Some e → Contains es (e.0, states.Dirty q)
found_is_dirty q [] e is = cc
found_is_dirty q (x ∷ xs) e is = ⊎_elim
    (λ here. subst (λ y. Contains (x ∷ xs) y) (ap (λ s. (x.0, s)) (dirty_of q x.1 here.0) ∙ ap (λ (z : ℕ × PageState). (z.0, states.Dirty q)) here.1) (head_in x xs))
    (λ there. Contains-append_right (x ∷ []) xs (e.0, states.Dirty q) (found_is_dirty q xs e there.1))
    (found_cases (is_waiting q x.1) x e (first_waiting q xs) is)

-- all numbers are at least the lower bound
at_least : (p low high : ℕ) (q : ℕ) (es : Pages) → p ≤ low → Ascend low high es → AllByRecursion (λ e. e.1 ≡ states.Dirty q → p ≤ e.0) es
at_least p low high q [] l a = tt
at_least p low high q (x ∷ xs) l a = ((λ is. omega (arith, a.0)), at_least p (x.0 + 1) high q xs (omega (arith, a.0)) a.2)

found_is_lowest : (q low high : ℕ) (es : Pages) (e : ℕ × PageState) → Ascend low high es → first_waiting q es ≡ Some e → AllByRecursion (λ x. x.1 ≡ states.Dirty q → e.0 ≤ x.0) es
found_is_lowest q low high [] e a is = tt
found_is_lowest q low high (x ∷ xs) e a is = ⊎_elim
    (λ here.
    let same : x.0 ≡ e.0 = ap (λ (z : ℕ × PageState). z.0) here.1 in
    ((λ dirty. omega arith), at_least e.0 (x.0 + 1) high q xs (omega arith) a.2))
    (λ there. ((λ dirty. absurd (not_dirty q x.1 there.0 dirty)), found_is_lowest q (x.0 + 1) high xs e a.2 there.1))
    (found_cases (is_waiting q x.1) x e (first_waiting q xs) is)

none_is_dirty : (q : ℕ) (es : Pages) → first_waiting q es ≡ None → AllByRecursion (λ e. e.1 ≢ states.Dirty q) es
none_is_dirty q [] is = tt
none_is_dirty q (x ∷ xs) is =
    let both = none_cases (is_waiting q x.1) x (first_waiting q xs) is in
    (not_dirty q x.1 both.0, none_is_dirty q xs both.1)

-- Together

page_of : (low high p q : ℕ) (es : Pages) → Ascend low high es → oldest es ≡ Some q → (o : Option (ℕ × PageState)) → first_waiting q es ≡ o → pick_of q es o ≡ picks.Page p → IsLowestOfOldest p es
page_of low high p q es a old None found is = cc
page_of low high p q es a old (Some e) found is =
    let same : e.0 ≡ p = cc in
    record {
      seq = q;
      dirty = subst (λ n. Contains es (n, states.Dirty q)) same (found_is_dirty q es e found);
      oldest = oldest_is q es old;
      lowest = subst (λ n. AllByRecursion (λ x. x.1 ≡ states.Dirty q → n ≤ x.0) es) same (found_is_lowest q low high es e a found);
    }

picked : (low high p : ℕ) (es : Pages) → Ascend low high es → (o : Option ℕ) → oldest es ≡ o → pick_under o es ≡ picks.Page p → IsLowestOfOldest p es
picked low high p es a None old is = cc
picked low high p es a (Some q) old is = page_of low high p q es a old (first_waiting q es) refl is

pub pick_is_lowest : (low high p : ℕ) (es : Pages) → Ascend low high es → pick es ≡ picks.Page p → IsLowestOfOldest p es
pick_is_lowest low high p es a is = picked low high p es a (oldest es) refl is

waits_of : (n q : ℕ) (es : Pages) → oldest es ≡ Some q → (o : Option (ℕ × PageState)) → first_waiting q es ≡ o → pick_of q es o ≡ picks.Waiting n → OldestIsSent n es
waits_of n q es old (Some e) found is = cc
waits_of n q es old None found is =
    let same : owed_under q es ≡ n = cc in
    record {
      seq = q;
      some = subst (λ m. 0 < m) same (some_under q es old);
      count = sym same;
      oldest = oldest_is q es old;
      sent = none_is_dirty q es found;
    }

waits : (n : ℕ) (es : Pages) (o : Option ℕ) → oldest es ≡ o → pick_under o es ≡ picks.Waiting n → OldestIsSent n es
waits n es None old is = cc
waits n es (Some q) old is = waits_of n q es old (first_waiting q es) refl is

pub pick_waits : (n : ℕ) (es : Pages) → pick es ≡ picks.Waiting n → OldestIsSent n es
pick_waits n es is = waits n es (oldest es) refl is

found_is_page : (q : ℕ) (es : Pages) (o : Option (ℕ × PageState)) → pick_of q es o ≡ picks.Clean → ⊥
found_is_page q es None is = cc
found_is_page q es (Some e) is = cc

clean : (es : Pages) (o : Option ℕ) → oldest es ≡ o → pick_under o es ≡ picks.Clean → AllByRecursion (λ e. owed_seq e.1 ≡ None) es
clean es None old is = none_owed es old
clean es (Some q) old is = absurd (found_is_page q es (first_waiting q es) is)

pub pick_is_clean : (es : Pages) → pick es ≡ picks.Clean → AllByRecursion (λ e. owed_seq e.1 ≡ None) es
pick_is_clean es is = clean es (oldest es) refl is
