use Rattle.cs_run.specs.Held.{Held, IsBlank}
use Rattle.cs_run.proofs.Serving.{refused}
use Rattle.cs_run.proofs.serve.serve_input.Goals as goal

pub returns-in-Runs-clause-ends : goal.returns-in-Runs-clause-ends
returns-in-Runs-clause-ends g c = rw c.in-Runs.is (rw c.events.ensures.events at c.run_events.ensures)

pub returns-in-Refused-clause-ends : goal.returns-in-Refused-clause-ends
returns-in-Refused-clause-ends g c =
    let held : Held =
    record { ops = g.O.ObjStore.ops c.args.store; records = g.L.MdsLog.records c.args.log; durable = g.L.MdsLog.durable c.args.log } in
    let blank : IsBlank held = record { store = c.requires.store; log = c.requires.log; durable = c.requires.durable } in
    rw c.in-Refused.is (refused c.args.pages _ _ _ _ _ _ held _ _ _ _ blank c.refuse.ensures)
