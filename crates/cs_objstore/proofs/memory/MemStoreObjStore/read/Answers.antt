use Rattle.std.proofs.Common.{Some, None, [], arith}
use Rattle.std.proofs.lemmas.Grind.{common_steps}
use Rattle.cs_objstore.specs.Found.{versions_of}
use Rattle.cs_objstore.proofs.Found.{found_is, reads_object}
use Rattle.cs_objstore.proofs.memory.MemStoreObjStore.read.Goals.{in-Some, in-None}
use Rattle.cs_objstore.proofs.memory.MemStoreObjStore.read.Goals as goal

pub returns-clause-bytes : goal.returns-clause-bytes
returns-clause-bytes c =
    let obj = c.args.obj in
    let vs = versions_of obj c.self.inside.objects in
    elim c.match-get.branch [
      | in-Some w ↦
          let found = found_is c.of.result obj c.self.inside.objects (Some w.in-Some.object.now) c.of.ensures.ino c.of.ensures.index w.in-Some.ensures.value in
          reads_object c.args.at obj c.self.inside.ops c.args.self.now vs w.in-Some.object.now c.args.off c.match-get.out w.read.new.out w.out-is
          c.self.view_is found (c.self.invariant.kept obj) w.read.ensures
      | in-None w ↦
          let found = found_is c.of.result obj c.self.inside.objects None c.of.ensures.ino c.of.ensures.index w.in-None.ensures.value in
          reads_object c.args.at obj c.self.inside.ops c.args.self.now vs [] c.args.off c.match-get.out w.fill.new.self w.out-is c.self.view_is found
          (c.self.invariant.kept obj) (λ k h. grind (arith, common_steps))
    ]
