use Rattle.std.proofs.Common.{◌≡◌}
use Rattle.cs_pages.specs.Pages.{page_in}
use Rattle.cs_pages.proofs.pages.Pages.page_in.Given as goal

abbrev pub invariant-loop-number : goal.invariant-loop-number
invariant-loop-number l = page_in l.tid l.number-iterator ≡ page_in l.tid l.self
