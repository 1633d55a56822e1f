use Rattle.std.proofs.Common.{◌≡◌, ◌∙◌, ap, length, rules, arith}
use Rattle.cs_trim.specs.Held.{StoreState}
use Rattle.cs_trim.proofs.Trimming.{dropped_past}
use Rattle.cs_trim.proofs.store.TrimStore.trim_objects.Goals as goal

pub returns-clause-count : goal.returns-clause-count
returns-clause-count c =
    let same : length c.self.inside.objects.items ≡ length c.args.self.now.objects = ap (λ (s : StoreState). length s.objects) c.self.view_is in
    let end : c.len-index-end.result ≡ length c.self.inside.objects.items = search rules in
    c.loop-index.invariant.count
    ∙ dropped_past c.args.self.now.numbers c.args.self.now.objects c.loop-index.index 64
    (omega (arith, c.loop-index-test.false, end, same))
    (omega (arith, c.loop-index.auto.index-end, end, same, c.loop-index.invariant.room))
