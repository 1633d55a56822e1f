-- Pages in the order of their numbers.
use Rattle.std.proofs.Common.{◌≡◌, refl, ap, ◌∙◌, ℕ, zero, suc, ◌+◌, ◌<◌, ◌≤◌, [], ◌∷◌, arith, subst}
use Rattle.cs_states.specs.declared.page.PageState.{PageState}
use Rattle.cs_states.specs.declared.page.PageState.TheVariants as states
use Rattle.cs_states.specs.PageLists.{Pages, Ascend, with_cached, listed}

-- what counts is the states of these numbers
pub listed_same : (n p : ℕ) (f g : ℕ → PageState) → ((q : ℕ) → p ≤ q → f q ≡ g q) → listed n p f ≡ listed n p g
unfolding listed
listed_same zero p f g same = refl
listed_same (suc n) p f g same =
    ap (λ s. with_cached p s (listed n (p + 1) f)) (same p (omega arith))
    ∙ ap (λ es. with_cached p (g p) es) (listed_same n (p + 1) f g (λ q l. same q (omega arith)))

-- a lower bound may be lower
pub ascend_lower : (low below high : ℕ) (es : Pages) → low ≤ below → Ascend below high es → Ascend low high es
ascend_lower low below high [] l a = tt
ascend_lower low below high (e ∷ es) l a = (omega (arith, a.0), a.1, a.2)

ascend_with : (p high : ℕ) (s : PageState) (es : Pages) → p < high → Ascend (p + 1) high es → Ascend p high (with_cached p s es)
ascend_with p high states.Absent es l a = ascend_lower p (p + 1) high es (omega arith) a
ascend_with p high states.Clean es l a = (omega arith, l, a)
ascend_with p high (states.Dirty q) es l a = (omega arith, l, a)
ascend_with p high (states.Sent q t) es l a = (omega arith, l, a)

pub listed_ascends : (n p : ℕ) (f : ℕ → PageState) → Ascend p (p + n) (listed n p f)
unfolding listed
listed_ascends zero p f = tt
listed_ascends (suc n) p f =
    ascend_with p (p + suc n) (f p) (listed n (p + 1) f) (omega arith)
    (subst (λ high. Ascend (p + 1) high (listed n (p + 1) f)) (omega arith) (listed_ascends n (p + 1) f))
