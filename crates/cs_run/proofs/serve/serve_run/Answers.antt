use Rattle.std.proofs.Common.{ap, Result, Err}
use Rattle.cs_io.specs.declared.whole.ReadFault.{ReadFault}
use Rattle.cs_run.specs.declared.input.Input.{Input}
use Rattle.cs_run.specs.Held.{Held, IsBlank}
use Rattle.cs_run.proofs.Serving.{unread, judged_and_ended}
use Rattle.cs_run.proofs.serve.serve_run.Goals as goal

pub returns-in-Err-clause-served : goal.returns-in-Err-clause-served
returns-in-Err-clause-served g c =
    let held : Held =
    record { ops = g.O.ObjStore.ops c.args.store; records = g.L.MdsLog.records c.args.log; durable = g.L.MdsLog.durable c.args.log } in
    let blank : IsBlank held = record { store = c.requires.store; log = c.requires.log; durable = c.requires.durable } in
    rw c.read_status.ensures
    (unread c.args.pages c.in-Err.fault _ _ _ _ _ _ held _ _ (λ is. c.in-Err.ensures.failed (ap (λ f. let r : Result Input ReadFault = Err f in r) is)) blank)

pub returns-in-Ok-clause-served : goal.returns-in-Ok-clause-served
returns-in-Ok-clause-served g c =
    let before : Held =
    record { ops = g.O.ObjStore.ops c.args.store; records = g.L.MdsLog.records c.args.log; durable = g.L.MdsLog.durable c.args.log } in
    let left = c.serve_input.result in
    let after : Held =
    record { ops = g.O.ObjStore.ops left.store; records = g.L.MdsLog.records left.log; durable = g.L.MdsLog.durable left.log } in
    judged_and_ended c.args.pages _ c.in-Ok.input _ _ _ _ _ _ _ _ before after _ _ _ _ c.in-Ok.ensures.ok c.serve_input.ensures.ends
