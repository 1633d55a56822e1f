use Rattle.std.proofs.Common.{◌∙◌, ap, length, reverse, ◌-◌, Some, None}
use Rattle.cs_laws.specs.Objects.{object}
use Rattle.cs_objstore.specs.Clones.{clones_of}
use Rattle.cs_objstore.specs.Found.{versions_of}
use Rattle.cs_objstore.proofs.Found.{found_is}
use Rattle.cs_objstore.proofs.Kept.{clones_counted}
use Rattle.cs_objstore.proofs.memory.MemStore.clones.Goals as goal

pub returns-in-Some : goal.returns-in-Some
returns-in-Some c =
    let found = found_is c.of.result c.args.obj c.self.inside.objects (Some c.in-Some.object.now) c.of.ensures.ino c.of.ensures.index c.in-Some.ensures.value in
    c.clones.ensures
    ∙ (ap (λ vs. length vs - 1) found
    ∙ (clones_counted (versions_of c.args.obj c.self.inside.objects) (object c.args.obj (reverse c.self.inside.ops)) (c.self.invariant.kept c.args.obj)
    ∙ ap (λ ops. clones_of c.args.obj (reverse ops)) c.self.view_is))

pub returns-in-None : goal.returns-in-None
returns-in-None c =
    let found = found_is c.of.result c.args.obj c.self.inside.objects None c.of.ensures.ino c.of.ensures.index c.in-None.ensures.value in
    ap (λ vs. length vs - 1) found
    ∙ (clones_counted (versions_of c.args.obj c.self.inside.objects) (object c.args.obj (reverse c.self.inside.ops)) (c.self.invariant.kept c.args.obj)
    ∙ ap (λ ops. clones_of c.args.obj (reverse ops)) c.self.view_is)
