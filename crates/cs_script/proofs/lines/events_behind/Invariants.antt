use Rattle.std.proofs.Common.{◌≡◌, true, length}
use Rattle.std.specs.List.{list_all}
use Rattle.cs_laws.specs.Events.{is_setup}
use Rattle.cs_laws.specs.Grammar.{events_from}
use Rattle.cs_laws.specs.Runs.{IsScript}
use Rattle.cs_script.proofs.Linewise.{with_front}
use Rattle.cs_script.proofs.lines.events_behind.Given as goal

abbrev pub invariant-loop-events : goal.invariant-loop-events
invariant-loop-events l = record {
  read : with_front l.events.items (events_from l.number l.setup l.lines) ≡ events_from 2 true l.fn.lines;
  script : IsScript l.events.items;
  flag : l.setup ≡ list_all is_setup l.events.items;
}

abbrev pub decreases-loop-events : goal.decreases-loop-events
decreases-loop-events l = length l.lines
