use Rattle.cs_laws.specs.Answers.{answer}
use Rattle.cs_laws.specs.Journal.{entry}
use Rattle.cs_theorems.proofs.Refused.{as_before}
use Rattle.cs_world.specs.Tables.{past}
use Rattle.cs_world.proofs.Halts.{none_called}
use Rattle.cs_world.proofs.Stored.{agrees_of}
use Rattle.cs_world.proofs.world.World.step.Goals as goal

pub returns-clause-refused : goal.returns-clause-refused
returns-clause-refused g c = λ refused.
    let s = c.self.inside.state in
    rw (c.in_ok-answer.ensures.history, ← c.self.view_is)
    (as_before (past s) (entry s.pages (past s) c.args.event.now) (rw c.in_ok-answer.ensures.answer at refused))

pub returns-clause-agrees : goal.returns-clause-agrees
returns-clause-agrees g c =
    let t = c.step.new.state in
    let done = c.in_ok-answer.ensures in
    agrees_of t.pages (past t) (g.O.ObjStore.ops c.step.new.store) (g.L.MdsLog.records c.step.new.log) (g.L.MdsLog.durable c.step.new.log) done.kept.run done.listed done.logged

pub returns-clause-untouched : goal.returns-clause-untouched
returns-clause-untouched g c = λ adds.
    let s = c.self.inside.state in
    let none = none_called c.args.event.now (answer s.pages (past s) c.args.event.now) (rw (← c.self.view_is) at adds) in
    let done = c.in_ok-answer.ensures in
    rw (← c.self.view_is) (done.store.quiet none.store, done.log.quiet none.log)
