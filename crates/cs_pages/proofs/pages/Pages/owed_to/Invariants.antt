use Rattle.std.proofs.Common.{◌≡◌, ◌≤◌, ◌+◌, length}
use Rattle.cs_states.specs.PageLists.{owed_to}
use Rattle.cs_pages.specs.Pages.{states}
use Rattle.cs_pages.proofs.pages.Pages.owed_to.Given as goal

abbrev pub invariant-loop-page : goal.invariant-loop-page
invariant-loop-page l = record {
  small : l.count + length l.page-iterator ≤ l.most;
  counted : l.count + owed_to l.follows (states l.page-iterator) ≡ owed_to l.follows (states l.self);
}
