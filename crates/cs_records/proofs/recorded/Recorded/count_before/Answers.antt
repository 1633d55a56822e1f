use Rattle.std.proofs.Common.{◌≡◌, ◌∙◌, sym, subst, ℕ, true, false, nat_lt, rules}
use Rattle.std.specs.List.Sorted.{IsPartitionPoint}
use Rattle.std.proofs.lemmas.List.Sorted.{IsPartitionPoint-from_clause}
use Rattle.cs_ids.specs.declared.objects.FileMeta.{FileMeta}
use Rattle.cs_records.proofs.RecordedAt.{CutsAt, rising_parts}
use Rattle.cs_records.proofs.recorded.Recorded.count_before.Goals as goal

pub returns-in-Snap-clause-point : goal.returns-in-Snap-clause-point
returns-in-Snap-clause-point c =
    let s = c.in-Snap.s in
    let is : c.deref.result.now ≡ c.args.self.now = c.deref.ensures.value ∙ c.self.view_is in
    let point : IsPartitionPoint (λ (x : ℕ × FileMeta). nat_lt x.0 s ≡ true) (λ x. nat_lt x.0 s ≡ false) c.deref.result.now c.partition_point.result =
    IsPartitionPoint-from_clause (λ x. nat_lt x.0 s) _ _ c.partition_point.ensures.partitioned
    (rw c.deref.ensures.value (rising_parts s c.self.inside.flushes.items c.self.invariant)) (λ a r q k. search rules) in
    subst (λ a. CutsAt a c.args.self.now c.partition_point.result) (sym c.in-Snap.is) (rw is at point)
