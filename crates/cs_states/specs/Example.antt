-- Three cached pages: page 0 is owed under context 5, page 2 is clean, page 7 is owed under context 4.
use Rattle.std.specs.Prelude.{[], ◌∷◌}
use Rattle.cs_states.specs.declared.page.PageState.TheVariants as states
use Rattle.cs_states.specs.PageLists.{Pages}

abbrev pub three_pages : Pages
three_pages = (0, states.Dirty 5) ∷ (2, states.Clean) ∷ (7, states.Dirty 4) ∷ []

-- page 7 is sent in operation 9
abbrev pub oldest_sent : Pages
oldest_sent = (0, states.Dirty 5) ∷ (2, states.Clean) ∷ (7, states.Sent 4 9) ∷ []
