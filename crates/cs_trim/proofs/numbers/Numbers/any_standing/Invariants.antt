use Rattle.std.proofs.Common.{◌≡◌, ◌-◌}
use Rattle.cs_trim.specs.Clones.{any_standing}
use Rattle.cs_trim.specs.Held.{status_in}
use Rattle.cs_trim.proofs.numbers.Numbers.any_standing.Given as goal

abbrev pub invariant-loop-number : goal.invariant-loop-number
invariant-loop-number l =
    any_standing (status_in l.self) l.number (l.last - l.number) ≡ any_standing (status_in l.self) l.span.above (l.span.upto - l.span.above)
