-- Facts on lists of steps: states of an object, and the clones that are kept.
use Rattle.std.proofs.Common.{◌≡◌, ◌∙◌, refl, sym, ap, ℕ, ◌+◌, ◌<◌, ◌≤◌, ◌==◌, ◌&&◌, ◌||◌, max, nat_lt, nat_le, Bool, true, false, cond, List, [], ◌∷◌, ◌++◌, All, arith, inl, inr}
use Rattle.std.specs.List.{list_any}
use Rattle.std.proofs.lemmas.Bool.{cases_lt}
use Rattle.std.proofs.lemmas.Grind.{common_steps}
use Rattle.std.proofs.lemmas.List.Elements.{All-append, All-cons, All-filter, All-nil, All-weaker}
use Rattle.std.proofs.lemmas.List.Folds.{list_any-append}
use Rattle.std.proofs.lemmas.Map.Views.{any-filter_same}
use Rattle.cs_trim.specs.declared.numbers.SnapStatus.{SnapStatus}
use Rattle.cs_trim.specs.declared.numbers.SnapStatus.TheVariants.{Gone, Standing}
use Rattle.cs_trim.specs.declared.object.Span.{Span}
use Rattle.cs_trim.specs.Clones.{greatest, has, is_standing, kept, made, serves}
use Rattle.cs_trim.specs.Objects.{Write, all_below, before, writes}
use Rattle.cs_trim.specs.Steps.{Step, taken, removed, wrote, trimmed, drawn, status}
use Rattle.cs_trim.proofs.Standing.{serves_has}

pub lt_is : (a b : ℕ) → a < b → nat_lt a b ≡ true
lt_is a b h = grind (arith, common_steps)

pub lt_not : (a b : ℕ) → b ≤ a → nat_lt a b ≡ false
lt_not a b h = grind (arith, common_steps)

pub lt_from : (a b : ℕ) → nat_lt a b ≡ true → a < b
lt_from a b h = grind (arith, common_steps, h)

pub not_from : (a b : ℕ) → nat_lt a b ≡ false → b ≤ a
not_from a b h = grind (arith, common_steps, h)

le_is : (a b : ℕ) → a ≤ b → nat_le a b ≡ true
le_is a b h = grind (arith, common_steps)

less_not : (a b : ℕ) → a < b → (a == b) ≡ false
less_not a b h = grind (arith, common_steps)

-- ---- the writes before a number

below : (s : ℕ) (ws : List Write) → greatest ws < s → all_below s ws ≡ true
below s [] less = refl
below s (w ∷ ws) less =
    let most : max w.seq (greatest ws) < s = less in
    ap (λ b. b && all_below s ws) (lt_is w.seq s (omega (arith, most))) ∙ below s ws (omega (arith, most))

-- all are before a greater number than their seqs
pub before_all : (s : ℕ) (ws : List Write) → greatest ws < s → before s ws ≡ ws
before_all s [] less = refl
before_all s (w ∷ ws) less = ap (λ b. cond b (w ∷ ws) (before s ws)) (below s (w ∷ ws) less)

-- the newest isn't where its seq is as great
pub before_newest : (s : ℕ) (w : Write) (ws : List Write) → s ≤ w.seq → before s (w ∷ ws) ≡ before s ws
before_newest s w ws least = ap (λ b. cond (b && all_below s ws) (w ∷ ws) (before s ws)) (lt_not w.seq s least)

greatest_by : (x : Bool) (w : Write) (ws : List Write) (d : ℕ) → w.seq ≤ d → greatest ws ≤ d → greatest (cond x (w ∷ ws) ws) ≤ d
greatest_by true w ws d first rest = let both : max w.seq (greatest ws) ≤ d = omega (arith, first, rest) in both
greatest_by false w ws d first rest = rest

-- no seq is above the numbers that were drawn
pub greatest_drawn : (b : ℕ) (h : List Step) → greatest (writes b h) ≤ drawn h
greatest_drawn b [] = let none : 0 ≤ 0 = omega arith in none
greatest_drawn b (taken ∷ h) = let more : greatest (writes b h) ≤ drawn h + 1 = omega (arith, greatest_drawn b h) in more
greatest_drawn b (removed s ∷ h) = let more : greatest (writes b h) ≤ drawn h + 1 = omega (arith, greatest_drawn b h) in more
greatest_drawn b (wrote c off bytes ∷ h) =
    greatest_by (c == b) (record { seq = drawn h; off = off; bytes = bytes }) (writes b h) (drawn h) (omega arith) (greatest_drawn b h)
greatest_drawn b (trimmed ∷ h) = greatest_drawn b h

-- ---- a kept clone ends with a number that was drawn, and the object's state is the same at all numbers of its span

abbrev pub AsOne : ℕ → List Write → Span → Type 0
AsOne d ws k = (k.upto ≤ d) × ((s : ℕ) → k.above < s → s ≤ k.upto → before s ws ≡ before k.upto ws)

later : (d e : ℕ) (ws : List Write) (k : Span) → d ≤ e → AsOne d ws k → AsOne e ws k
later d e ws k more one = (omega (arith, more, one.0), one.1)

still : (d : ℕ) (w : Write) (ws : List Write) (k : Span) → w.seq ≡ d → AsOne d ws k → AsOne d (w ∷ ws) k
still d w ws k is one = (
  one.0,
  λ s low high.
      before_newest s w ws (omega (arith, is, one.0, high)) ∙ (one.1 s low high ∙ sym (before_newest k.upto w ws (omega (arith, is, one.0)))),
)

made_by : (q : ℕ) (w : Write) (ws : List Write) (b : Bool) → nat_lt (greatest ws) q ≡ b → w.seq ≡ q
    → All (AsOne q (w ∷ ws)) (cond b (record { above = greatest ws; upto = q } ∷ []) [])
made_by q w ws true below is =
    let k : Span = record { above = greatest ws; upto = q } in
    let less = lt_from (greatest ws) q below in
    let at_end : before q (w ∷ ws) ≡ ws = before_newest q w ws (omega (arith, is)) ∙ before_all q ws less in
    let one : AsOne q (w ∷ ws) k = (
      omega arith,
      λ s low high. before_newest s w ws (omega (arith, is, high)) ∙ (before_all s ws low ∙ sym at_end),
    ) in All-cons (AsOne q (w ∷ ws)) k [] one (All-nil (AsOne q (w ∷ ws)))
made_by q w ws false below is = All-nil (AsOne q (w ∷ ws))

made_as_one : (q : ℕ) (w : Write) (ws : List Write) → w.seq ≡ q → All (AsOne q (w ∷ ws)) (made q ws)
made_as_one q w [] is = All-nil (AsOne q (w ∷ []))
made_as_one q w (v ∷ vs) is = made_by q w (v ∷ vs) (nat_lt (greatest (v ∷ vs)) q) refl is

as_one_by : (x : Bool) (q : ℕ) (w : Write) (ws : List Write) (ks : List Span) → w.seq ≡ q → All (AsOne q ws) ks
    → All (AsOne q (cond x (w ∷ ws) ws)) (cond x (ks ++ made q ws) ks)
as_one_by true q w ws ks is ones =
    All-append (AsOne q (w ∷ ws)) ks (made q ws) (All-weaker (AsOne q ws) (AsOne q (w ∷ ws)) (λ k. still q w ws k is) ks ones) (made_as_one q w ws is)
as_one_by false q w ws ks is ones = ones

more_drawn : (b : ℕ) (h : List Step) → All (AsOne (drawn h) (writes b h)) (kept b h) → All (AsOne (drawn h + 1) (writes b h)) (kept b h)
more_drawn b h ones =
    All-weaker (AsOne (drawn h) (writes b h)) (AsOne (drawn h + 1) (writes b h)) (λ k. later (drawn h) (drawn h + 1) (writes b h) k (omega arith)) (kept b h) ones

pub kept_as_one : (b : ℕ) (h : List Step) → All (AsOne (drawn h) (writes b h)) (kept b h)
kept_as_one b [] = All-nil (AsOne 0 [])
kept_as_one b (taken ∷ h) = more_drawn b h (kept_as_one b h)
kept_as_one b (removed s ∷ h) = more_drawn b h (kept_as_one b h)
kept_as_one b (wrote c off bytes ∷ h) =
    as_one_by (c == b) (drawn h) (record { seq = drawn h; off = off; bytes = bytes }) (writes b h) (kept b h) refl (kept_as_one b h)
kept_as_one b (trimmed ∷ h) = All-filter (serves h) (AsOne (drawn h) (writes b h)) (kept b h) (kept_as_one b h)

-- ---- a standing snapshot at which the object was written, and which isn't newer than its last write, lies in a kept clone's span

-- what stands for a list of writes and of spans, at a number
abbrev pub Covers : ℕ → List Write → List Span → Type 0
Covers s ws ks = s ≤ greatest ws → list_any (has s) ks ≡ false → before s ws ≡ []

has_made : (s q : ℕ) (ws : List Write) → greatest ws < s → s ≤ q
    → list_any (has s) (cond (nat_lt (greatest ws) q) (record { above = greatest ws; upto = q } ∷ []) []) ≡ true
has_made s q ws low high =
    ap (λ b. list_any (has s) (cond b (record { above = greatest ws; upto = q } ∷ []) [])) (lt_is (greatest ws) q (omega (arith, low, high)))
    ∙ (ap (λ b. (b && nat_le s q) || false) (lt_is (greatest ws) s low) ∙ ap (λ b. b || false) (le_is s q high))

covers_made : (s q : ℕ) (ws : List Write) → greatest ws < s → s ≤ q → list_any (has s) (made q ws) ≡ false → before s ws ≡ []
covers_made s q [] low high none = refl
covers_made s q (v ∷ vs) low high none = let some = has_made s q (v ∷ vs) low high in absurd (cc)

left_none : (a b : Bool) → (a || b) ≡ false → a ≡ false
left_none true b none = absurd (cc)
left_none false b none = refl

right_none : (a b : Bool) → (a || b) ≡ false → b ≡ false
right_none true b none = absurd (cc)
right_none false b none = none

covers_by : (x : Bool) (s q : ℕ) (w : Write) (ws : List Write) (ks : List Span) → w.seq ≡ q → greatest ws ≤ q → Covers s ws ks
    → Covers s (cond x (w ∷ ws) ws) (cond x (ks ++ made q ws) ks)
covers_by true s q w ws ks is small old least none =
    let least : s ≤ max w.seq (greatest ws) = least in
    let upto : s ≤ q = omega (arith, is, small, least) in
    let both : (list_any (has s) ks || list_any (has s) (made q ws)) ≡ false = sym (list_any-append (has s) ks (made q ws)) ∙ none in
    let before_it : before s ws ≡ [] = elim (cases_lt (greatest ws) s) [
      | inl above ↦ covers_made s q ws above upto (right_none (list_any (has s) ks) (list_any (has s) (made q ws)) both)
      | inr under ↦ old under (left_none (list_any (has s) ks) (list_any (has s) (made q ws)) both)
    ] in before_newest s w ws (omega (arith, is, upto)) ∙ before_it
covers_by false s q w ws ks is small old least none = old least none

not_gone : (x : Bool) (st : SnapStatus) → is_standing (cond x Gone st) ≡ true → is_standing st ≡ true
not_gone true st stands = absurd (cc)
not_gone false st stands = stands

pub covers : (b s : ℕ) (h : List Step) → is_standing (status h s) ≡ true → Covers s (writes b h) (kept b h)
covers b s [] stands least none = refl
covers b s (taken ∷ h) stands least none =
    let new : (s == drawn h + 1) ≡ false = less_not s (drawn h + 1) (omega (arith, least, greatest_drawn b h)) in
    covers b s h (sym (ap (λ x. is_standing (cond x Standing (status h s))) new) ∙ stands) least none
covers b s (removed t ∷ h) stands least none = covers b s h (not_gone (s == t) (status h s) stands) least none
covers b s (wrote c off bytes ∷ h) stands least none =
    covers_by (c == b) s (drawn h) (record { seq = drawn h; off = off; bytes = bytes }) (writes b h) (kept b h) refl (greatest_drawn b h) (covers b s h stands) least none
covers b s (trimmed ∷ h) stands least none =
    covers b s h stands least (sym (any-filter_same (has s) (serves h) true (λ k. serves_has h s k stands) (kept b h)) ∙ none)
