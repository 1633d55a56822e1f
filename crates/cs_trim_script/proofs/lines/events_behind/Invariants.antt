use Rattle.std.proofs.Common.{◌≡◌, length}
use Rattle.cs_trim_script.specs.Fits.{AllFit}
use Rattle.cs_trim_script.specs.Grammar.{events_from}
use Rattle.cs_trim_script.proofs.Linewise.{with_front}
use Rattle.cs_trim_script.proofs.lines.events_behind.Given as goal

abbrev pub invariant-loop-events : goal.invariant-loop-events
invariant-loop-events l = record {
  read : with_front l.events.items (events_from l.number l.lines) ≡ events_from 2 l.fn.lines;
  fitting : AllFit l.events.items;
}

abbrev pub decreases-loop-events : goal.decreases-loop-events
decreases-loop-events l = length l.lines
