use Rattle.std.proofs.Common.{ap, arith, rules}
use Rattle.cs_objstore.proofs.Falling.{falls_fewer}
use Rattle.cs_objstore.specs.declared.object.Version.{Version}
use Rattle.cs_objstore.proofs.object.Object.clones.Goals as goal

pub prove-unreachable-requires : goal.prove-unreachable-requires
prove-unreachable-requires c =
    let vs = c.self.inside.versions.items in
    let first = ap (λ (v : Version). v.since) c.in-Some.ensures.lookup in
    omega (arith, c.if-prove.true, c.get-greatest.ensures.value, first, c.len-clones.ensures, falls_fewer vs c.in-Some.head.now (search rules) c.self.invariant)
