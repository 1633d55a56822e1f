-- The cached pages of a file, in the order of their numbers.
use Rattle.std.specs.Prelude.{◌≡◌, ℕ, ◌==◌, ◌≤◌, true, List, Option, None, find, map, if◌then◌else◌}
use Rattle.std.specs.Option.{option_map}
use Rattle.std.specs.Ordering.{nat_cmp}
use Rattle.std.specs.Map.{lookup}
use Rattle.std.specs.BTreeMap.{is_at}
use Rattle.cs_states.specs.declared.page.PageState.{PageState}
use Rattle.cs_states.specs.PageState.{is_in}
use Rattle.cs_pages.specs.declared.page.Page.{Page}
use Rattle.cs_pages.specs.Page.{page_state, state_of}

-- the page of a number, or None where it isn't cached
abbrev pub page_at : List (ℕ × Page) → ℕ → Option Page
page_at es p = lookup (is_at (nat_cmp p)) es

abbrev pub state_at : List (ℕ × Page) → ℕ → PageState
state_at es p = state_of (page_at es p)

-- what the cached ones are to the client
abbrev pub states : List (ℕ × Page) → List (ℕ × PageState)
states es = map (λ e. (e.0, page_state e.1)) es

-- the page of number q, where page p is changed to x
abbrev pub changed : List (ℕ × Page) → ℕ → Option Page → ℕ → Option Page
changed es p x q = if q == p then x else page_at es q

-- page p is changed to x, and no other is changed
abbrev pub ChangesPage : List (ℕ × Page) → List (ℕ × Page) → ℕ → Option Page → Type 0
ChangesPage old new p x = (q : ℕ) → page_at new q ≡ changed old p x q

-- each page is changed by f
abbrev pub ChangesEach : List (ℕ × Page) → List (ℕ × Page) → (Option Page → Option Page) → Type 0
ChangesEach old new f = (q : ℕ) → page_at new q ≡ f (page_at old q)

-- the first that is sent in an operation
abbrev pub page_in : ℕ → List (ℕ × Page) → Option ℕ
page_in t es = option_map (λ e. e.0) (find (λ e. is_in t (page_state e.1)) es)

-- no page has a number from n on
abbrev pub IsBelow : ℕ → List (ℕ × Page) → Type 0
IsBelow n es = (q : ℕ) → n ≤ q → page_at es q ≡ None

-- no two are sent in one operation
abbrev pub IsApart : List (ℕ × Page) → Type 0
IsApart es = (t p q : ℕ) → is_in t (state_at es p) ≡ true → is_in t (state_at es q) ≡ true → p ≡ q

pub record IsKept (es : List (ℕ × Page)) : Type 0 where
  pub below : IsBelow 256 es
  pub apart : IsApart es
