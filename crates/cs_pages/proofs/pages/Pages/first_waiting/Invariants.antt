use Rattle.std.proofs.Common.{◌≡◌}
use Rattle.cs_states.specs.PageLists.{first_waiting}
use Rattle.cs_pages.specs.Pages.{states}
use Rattle.cs_pages.proofs.pages.Pages.first_waiting.Given as goal

abbrev pub invariant-loop-number : goal.invariant-loop-number
invariant-loop-number l = first_waiting l.seq (states l.number-iterator) ≡ first_waiting l.seq (states l.self)
