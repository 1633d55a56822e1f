use Rattle.std.proofs.Common.{◌∙◌, ap, cond, true, ◌==◌, arith, rules}
use Rattle.std.proofs.lemmas.Grind.{common_steps}
use Rattle.cs_objstore.proofs.Found.{entry_is, stands_same, stands_still, stands_written}
use Rattle.cs_objstore.proofs.Kept.{keeps_written}
use Rattle.cs_objstore.proofs.memory.MemStore.write.Goals as goal

pub invariant_of-self-in_err-entry : goal.invariant_of-self-in_err-entry
invariant_of-self-in_err-entry c =
    stands_still c.self.inside.ops c.self.inside.objects c.entry.follows.lender-at-none c.self.inside.tids c.reserve.new.self c.self.invariant
    (λ obj. first_of (search rules, grind (arith, common_steps))) c.in_ok-reserve.ensures.keys.2

pub invariant_of-self-in_err-write : goal.invariant_of-self-in_err-write
invariant_of-self-in_err-write c =
    let m = c.self.inside.objects in
    let at = c.args.op.now.obj in
    let w = c.write.new.self in
    let was = c.or_insert-object.result.now in
    let old =
    entry_is c.of.result at m _ c.new.result was c.of.ensures.ino c.of.ensures.index c.in_ok-entry.ensures.value c.new.ensures
    c.or_insert-object.ensures.value in
    stands_same c.self.inside.ops c.write.new.ops c.of.result at w m _ c.self.inside.tids c.reserve.new.self c.self.invariant c.in_err-write.ensures.err.0
    c.of.ensures.ino c.of.ensures.index (rw old at c.in_err-write.ensures.err.1)
    (λ obj. let u = (c.in_ok-entry.ensures.update.0 w).0 record { ino = obj.ino; index = obj.index } in first_of (search rules, grind (arith, common_steps, u)))
    c.in_ok-reserve.ensures.keys.2

pub invariant_of-self-2 : goal.invariant_of-self-2
invariant_of-self-2 c =
    let m = c.self.inside.objects in
    let op = c.args.op.now in
    let w = c.write.new.self in
    let was = c.or_insert-object.result.now in
    let old =
    entry_is c.of.result op.obj m _ c.new.result was c.of.ensures.ino c.of.ensures.index c.in_ok-entry.ensures.value c.new.ensures
    c.or_insert-object.ensures.value in
    let e = c.in_ok-write.ensures in
    stands_written c.self.inside.ops c.write.new.ops c.of.result op w m _ c.self.inside.tids c.insert.new.self c.self.invariant e.listed
    (λ tid. c.in_ok-insert.ensures.updates.0 tid ∙ ap (λ b. cond (op.tid == tid) true b) (c.in_ok-reserve.ensures.keys.2 tid))
    c.of.ensures.ino c.of.ensures.index
    (λ os k. keeps_written op os was w (rw old k) e.some e.since e.clones e.written)
    (λ obj. let u = (c.in_ok-entry.ensures.update.0 w).0 record { ino = obj.ino; index = obj.index } in first_of (search rules, grind (arith, common_steps, u)))
