-- Dropping the clean pages.
use Rattle.std.proofs.Common.{◌≡◌, refl, sym, ap, ◌∙◌, ℕ, ◌+◌, Bool, true, false, cond, List, [], ◌∷◌, Option, Some, None, arith, ⊎_elim, filter, length, is_some}
use Rattle.std.proofs.lemmas.Bool.{cases_eq}
use Rattle.std.proofs.lemmas.List.Sums.{sum_by-cons}
use Rattle.cs_states.specs.PageState.{is_clean, is_in}
use Rattle.cs_states.specs.PageLists.{Ascend, clean_count}
use Rattle.cs_pages.specs.declared.page.Owed.{Owed}
use Rattle.cs_pages.specs.declared.page.Page.{Page}
use Rattle.cs_pages.specs.Page.{after_drop, owed_state, page_state, sent_state, state_of}
use Rattle.cs_pages.specs.Pages.{IsKept, page_at, state_at, states}
use Rattle.cs_pages.proofs.Ordered.{at_head, at_tail, none_below}

abbrev pub owed_pages : List (ℕ × Page) → List (ℕ × Page)
owed_pages es = filter (λ e. is_some e.1.owed) es

head_after : (b : Bool) (q : ℕ) (e : ℕ × Page) (es kept : List (ℕ × Page)) → q ≡ e.0 → page_at kept q ≡ None → page_at (cond b (e ∷ kept) kept) q ≡ cond b (Some e.1) None
head_after true q e es kept same none = at_head e kept q same
head_after false q e es kept same none = none

tail_after : (b : Bool) (q : ℕ) (e : ℕ × Page) (kept : List (ℕ × Page)) → (q ≡ e.0 → ⊥) → page_at (cond b (e ∷ kept) kept) q ≡ page_at kept q
tail_after true q e kept other = at_tail e kept q other
tail_after false q e kept other = refl

pub owed_at : (low high q : ℕ) (es : List (ℕ × Page)) → Ascend low high (states es) → page_at (owed_pages es) q ≡ after_drop (page_at es q)
owed_at low high q [] a = refl
owed_at low high q (e ∷ es) a = ⊎_elim
    (λ here.
    let gone : page_at (owed_pages es) q ≡ None = owed_at (e.0 + 1) high q es a.2 ∙ ap after_drop (none_below (e.0 + 1) high q es (omega arith) a.2) in
    head_after (is_some e.1.owed) q e es (owed_pages es) here gone ∙ sym (ap after_drop (at_head e es q here)))
    (λ there. tail_after (is_some e.1.owed) q e (owed_pages es) there ∙ (owed_at (e.0 + 1) high q es a.2 ∙ sym (ap after_drop (at_tail e es q there))))
    (cases_eq q e.0)

-- what is left was there
left_from : (b : Bool) (t : ℕ) (x : Page) → is_in t (state_of (cond b (Some x) None)) ≡ true → is_in t (page_state x) ≡ true
left_from true t x is = is
left_from false t x is = cc

left : (t : ℕ) (x : Option Page) → is_in t (state_of (after_drop x)) ≡ true → is_in t (state_of x) ≡ true
left t None is = is
left t (Some x) is = left_from (is_some x.owed) t x is

pub kept_owed : (low high : ℕ) (es : List (ℕ × Page)) → Ascend low high (states es) → IsKept es → IsKept (owed_pages es)
kept_owed low high es a kept =
    let at : (q : ℕ) → page_at (owed_pages es) q ≡ after_drop (page_at es q) = λ q. owed_at low high q es a in
    let was : (t q : ℕ) → is_in t (state_at (owed_pages es) q) ≡ true → is_in t (state_at es q) ≡ true = λ t q is.
    left t (page_at es q) (sym (ap (λ x. is_in t (state_of x)) (at q)) ∙ is) in
    record {
      below = λ q above. at q ∙ ap after_drop (kept.below q above);
      apart = λ t p q here there. kept.apart t p q (was t p here) (was t q there);
    }

-- each page is owed or clean
sent_is_not_clean : (q : ℕ) (t : Option ℕ) → is_clean (sent_state q t) ≡ false
sent_is_not_clean q None = refl
sent_is_not_clean q (Some t) = refl

counted : (o : Option Owed) (n c k : ℕ) → n + c ≡ k → cond (is_some o) (n + 1) n + (cond (is_clean (owed_state o)) 1 0 + c) ≡ k + 1
counted None n c k is = omega arith
counted (Some o) n c k is = rw (sent_is_not_clean o.context.seq o.tid) (omega arith)

length_after : (b : Bool) (e : ℕ × Page) (es : List (ℕ × Page)) → length (cond b (e ∷ es) es) ≡ cond b (length es + 1) (length es)
length_after true e es = omega arith
length_after false e es = refl

pub owed_or_clean : (es : List (ℕ × Page)) → length (owed_pages es) + clean_count (states es) ≡ length es
owed_or_clean [] = refl
owed_or_clean (e ∷ es) =
    rw (length_after (is_some e.1.owed) e (owed_pages es), sum_by-cons (λ (x : ℕ × _). cond (is_clean x.1) 1 0) (e.0, page_state e.1) (states es))
    (counted e.1.owed (length (owed_pages es)) (clean_count (states es)) (length es) (owed_or_clean es) ∙ omega arith)
