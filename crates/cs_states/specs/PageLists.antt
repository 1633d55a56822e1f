-- The cached pages of a file, each with its number, in order.
use Rattle.std.specs.Prelude.{◌≡◌, ◌≢◌, ℕ, zero, suc, ◌+◌, ◌<◌, ◌≤◌, List, [], ◌∷◌, Option, Some, None, count_by, find, min, Contains, IfSome}
use Rattle.std.specs.List.{AllByRecursion}
use Rattle.cs_states.specs.declared.page.PageState.{PageState}
use Rattle.cs_states.specs.declared.page.PageState.TheVariants as states
use Rattle.cs_states.specs.declared.page.Pick.{Pick}
use Rattle.cs_states.specs.declared.page.Pick.TheVariants as picks
use Rattle.cs_states.specs.PageState.{owed_seq, is_clean, is_under, is_up_to, is_waiting}

abbrev pub Pages : Type 0
Pages = List (ℕ × PageState)

-- the numbers ascend, from the first bound on and below the second
abbrev pub Ascend : ℕ → ℕ → Pages → Type 0
Ascend low high [] = Unit {0}
Ascend low high (e ∷ es) = (low ≤ e.0) × (e.0 < high) × Ascend (e.0 + 1) high es

-- the cached ones of n pages from number p on, where f tells the state of each number
abbrev pub with_cached : ℕ → PageState → Pages → Pages
with_cached p states.Absent es = es
with_cached p states.Clean es = (p, states.Clean) ∷ es
with_cached p (states.Dirty q) es = (p, states.Dirty q) ∷ es
with_cached p (states.Sent q t) es = (p, states.Sent q t) ∷ es

unfoldable pub listed : ℕ → ℕ → (ℕ → PageState) → Pages
listed zero p f = []
listed (suc n) p f = with_cached p (f p) (listed n (p + 1) f)

-- the least number of a context under which a page is owed
abbrev pub least : Option ℕ → Option ℕ → Option ℕ
least None b = b
least (Some a) None = Some a
least (Some a) (Some b) = Some (min a b)

abbrev pub oldest : Pages → Option ℕ
oldest [] = None
oldest (e ∷ es) = least (owed_seq e.1) (oldest es)

-- how many are owed under the context of number q, and how many under those up to it
abbrev pub owed_under : ℕ → Pages → ℕ
owed_under q es = count_by (λ e. is_under q e.1) es

abbrev pub owed_to : ℕ → Pages → ℕ
owed_to q es = count_by (λ e. is_up_to q e.1) es

abbrev pub clean_count : Pages → ℕ
clean_count es = count_by (λ e. is_clean e.1) es

-- the first that is owed under the context of number q and isn't sent
abbrev pub first_waiting : ℕ → Pages → Option (ℕ × PageState)
first_waiting q es = find (λ e. is_waiting q e.1) es

-- the page that is written back next
abbrev pub pick_of : ℕ → Pages → Option (ℕ × PageState) → Pick
pick_of q es None = picks.Waiting (owed_under q es)
pick_of q es (Some e) = picks.Page e.0

abbrev pub pick_under : Option ℕ → Pages → Pick
pick_under None es = picks.Clean
pick_under (Some q) es = pick_of q es (first_waiting q es)

abbrev pub pick : Pages → Pick
pick es = pick_under (oldest es) es

-- What a pick is

-- no page is owed under a context below number q
abbrev pub IsOldest : ℕ → Pages → Type 0
IsOldest q es = AllByRecursion (λ e. IfSome (owed_seq e.1) (λ r. q ≤ r)) es

-- page p is the lowest of the oldest context that isn't sent
pub record IsLowestOfOldest (p : ℕ) (es : Pages) : Type 0 where
  pub seq : ℕ
  pub dirty : Contains es (p, states.Dirty seq)
  pub oldest : IsOldest seq es
  pub lowest : AllByRecursion (λ e. e.1 ≡ states.Dirty seq → p ≤ e.0) es

-- the n pages of the oldest context, one or more, are all sent
pub record OldestIsSent (n : ℕ) (es : Pages) : Type 0 where
  pub seq : ℕ
  pub some : 0 < n
  pub count : n ≡ owed_under seq es
  pub oldest : IsOldest seq es
  pub sent : AllByRecursion (λ e. e.1 ≢ states.Dirty seq) es
