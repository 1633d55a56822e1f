use Rattle.std.proofs.Common.{◌≡◌, ◌≤◌, ◌++◌, true, take, length}
use Rattle.std.specs.Io.KnownBytes.{Appends}
use Rattle.cs_laws.specs.Agreement.{Agrees}
use Rattle.cs_laws.specs.Journal.{journal, header, lines}
use Rattle.cs_run.proofs.journal.write_journal.Given as goal

abbrev pub invariant-loop-event : goal.invariant-loop-event
invariant-loop-event g l = record {
  live : l.world.live ≡ true;
  pages : l.world.pages ≡ l.fn.world.pages;
  count : length l.world.history ≡ l.event-index;
  done : l.world.history ≡ journal l.fn.world.pages (take l.event-index l.events);
  agrees : Agrees (g.O.ObjStore.ops l.world.store) (g.L.MdsLog.records l.world.log) (g.L.MdsLog.durable l.world.log) l.world.history;
  written : Appends (g.K.Sink.taken l.fn.sink) (g.K.Sink.taken l.sink) (header ++ lines l.world.history);
  sink : g.K.Sink.faults l.fn.sink ≤ g.K.Sink.faults l.sink;
  store : g.O.ObjStore.faults l.fn.world.store ≤ g.O.ObjStore.faults l.world.store;
  log : g.L.MdsLog.faults l.fn.world.log ≤ g.L.MdsLog.faults l.world.log;
}
