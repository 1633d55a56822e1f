use Rattle.std.proofs.Common.{◌≡◌, ap}
use Rattle.cs_run.specs.Held.{Held}
use Rattle.cs_run.proofs.Runs.{script_run}
use Rattle.cs_run.proofs.Serving.{ran, unmade}
use Rattle.cs_run.proofs.serve.run_events.Goals as goal

pub returns-in-Err : goal.returns-in-Err
returns-in-Err g c =
    let store : c.in-Err.field-0.store ≡ c.args.store = ap (λ f. f.store) c.in-Err.ensures.err in
    let log : c.in-Err.field-0.log ≡ c.args.log = ap (λ f. f.log) c.in-Err.ensures.err in
    let held : Held =
    record { ops = g.O.ObjStore.ops c.args.store; records = g.L.MdsLog.records c.args.log; durable = g.L.MdsLog.durable c.args.log } in
    rw (store, log)
    (unmade c.args.pages c.args.events.now _ _ held _ _ (script_run c.args.pages c.args.events.now c.requires.script)
    (record { store = c.requires.store; log = c.requires.log; durable = c.requires.durable }))

pub returns-in-Ok : goal.returns-in-Ok
returns-in-Ok g c =
    let made = c.in-Ok.ensures.ok in
    let pages : c.in-Ok.world.pages ≡ c.args.pages = ap (λ w. w.pages) made in
    let store : c.in-Ok.world.store ≡ c.args.store = ap (λ w. w.store) made in
    let log : c.in-Ok.world.log ≡ c.args.log = ap (λ w. w.log) made in
    let wrote = c.write_journal-ran.ensures in
    let kept = c.write_journal-ran.new.world in
    let held : Held =
    record { ops = g.O.ObjStore.ops kept.store; records = g.L.MdsLog.records kept.log; durable = g.L.MdsLog.durable kept.log } in
    rw (c.run_status.ensures, c.finish-store.ensures.store, c.finish-store.ensures.log)
    (ran c.args.pages c.args.events.now c.write_journal-ran.result _ _ _ _ held _ _ _ _ (script_run c.args.pages c.args.events.now c.requires.script)
    (rw pages at wrote.ok) (rw pages at wrote.agrees) (rw pages at wrote.err) wrote.sink (rw store at wrote.store) (rw log at wrote.log))
