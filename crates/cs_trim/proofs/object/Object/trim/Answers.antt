use Rattle.std.proofs.Common.{ap, rules}
use Rattle.std.proofs.lemmas.Fn.{filter_same}
use Rattle.cs_trim.specs.declared.object.KeptClone.{KeptClone}
use Rattle.cs_trim.specs.Held.{ObjectState, serves_in}
use Rattle.cs_trim.proofs.Trimming.{count_dropped, object_trimmed}
use Rattle.cs_trim.proofs.object.Object.trim.Goals as goal

pub returns-clause-trimmed : goal.returns-clause-trimmed
returns-clause-trimmed c =
    let left = filter_same _ (λ (x : KeptClone). serves_in c.args.numbers.now x.span) _ (λ x b f' k. search rules) _ _ c.retain.ensures.filtered in
    object_trimmed c.args.numbers.now c.self.inside.head c.self.inside.clones.items c.retain.new.self.items c.args.self.now left c.self.view_is

pub returns-clause-count : goal.returns-clause-count
returns-clause-count c =
    let left = filter_same _ (λ (x : KeptClone). serves_in c.args.numbers.now x.span) _ (λ x b f' k. search rules) _ _ c.retain.ensures.filtered in
    count_dropped c.args.numbers.now c.clones-before.result c.clones.result c.self.inside.clones.items c.retain.new.self.items c.args.self.now left
    (ap (λ (o : ObjectState). o.clones) c.self.view_is) c.clones-before.ensures.count c.clones.ensures.count
