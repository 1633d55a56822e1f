use Rattle.std.proofs.Common.{◌∙◌, sym, ap, nat_le, arith, rules}
use Rattle.std.proofs.lemmas.List.Sorted.{IsPartitionPoint-from_clause}
use Rattle.cs_objstore.proofs.Falling.{newer_found, partitioned}
use Rattle.cs_objstore.specs.Versions.{newer}
use Rattle.cs_objstore.specs.declared.object.Version.{Version}
use Rattle.cs_objstore.proofs.object.Object.newer.Goals as goal

pub returns : goal.returns
returns c =
    let s = c.args.snap.now in
    let vs = c.self.inside.versions.items in
    let found = IsPartitionPoint-from_clause (λ (v : Version). nat_le s v.since) vs c.partition_point.result c.partition_point.ensures.partitioned
    (partitioned s vs c.self.invariant) (λ a r f k. search rules)
    in sym (ap (newer s) (sym c.self.view_is)
    ∙ newer_found s c.partition_point.result vs (search rules) (λ k d h. found.0 k d (omega arith) h) (λ k d from to. found.1 k d from to))
