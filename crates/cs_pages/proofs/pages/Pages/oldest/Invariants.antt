use Rattle.std.proofs.Common.{◌≡◌}
use Rattle.cs_states.specs.PageLists.{oldest, least}
use Rattle.cs_pages.specs.Pages.{states}
use Rattle.cs_pages.proofs.pages.Pages.oldest.Given as goal

abbrev pub invariant-loop-page : goal.invariant-loop-page
invariant-loop-page l = least l.oldest (oldest (states l.page-iterator)) ≡ oldest (states l.self)
