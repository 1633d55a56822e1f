use Rattle.std.proofs.Common.{◌≡◌, ◌≤◌, drop}
use Rattle.cs_trim_run.proofs.Running.{Written}
use Rattle.cs_trim_run.proofs.journal.write_journal.Given as goal

abbrev pub invariant-loop-event : goal.invariant-loop-event
invariant-loop-event g l = record {
  written : Written (g.K.Sink.taken l.fn.sink) (g.K.Sink.taken l.sink) l.events (drop l.event-index l.events) l.event-index l.run;
  number : l.number ≡ l.event-index;
  sink : g.K.Sink.faults l.fn.sink ≤ g.K.Sink.faults l.sink;
}
