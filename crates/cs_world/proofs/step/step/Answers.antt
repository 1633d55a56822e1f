use Rattle.std.proofs.Common.{rules}
use Rattle.cs_world.specs.Tables.{past}
use Rattle.cs_world.proofs.Stored.{front_listed, store_after}
use Rattle.cs_world.proofs.step.step.Goals as goal

pub returns-in_err-told-clause-store : goal.returns-in_err-told-clause-store
returns-in_err-told-clause-store g c =
    let s = c.args.state.now in
    let h = past s in
    let e = c.args.event.now in
    let done = c.in_ok-answer.ensures in
    let front =
    front_listed s.pages h e c.in_ok-answer.answer (g.O.ObjStore.ops c.answer.new.store) (rw c.reserve.ensures.entries at done.ok.after.answer)
    (rw c.reserve.ensures.entries at done.listed) in
    store_after (λ x. g.O.ObjStore.ops x) (λ x. g.O.ObjStore.faults x) s.pages h e c.args.store.now c.answer.new.store _ c.from_residual-in_err-told.result
    (λ failed. search rules) front (rw c.reserve.ensures.entries at done.store)
