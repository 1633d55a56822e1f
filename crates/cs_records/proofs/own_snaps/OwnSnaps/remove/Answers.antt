use Rattle.std.proofs.Common.{◌==◌, not, ◌∙◌, ap, reverse, filter, rules}
use Rattle.std.proofs.lemmas.Fn.{filter_same}
use Rattle.cs_laws.specs.Realms.{Own}
use Rattle.cs_records.proofs.Lists.{reverse_filter}
use Rattle.cs_records.proofs.own_snaps.OwnSnaps.remove.Goals as goal

pub returns : goal.returns
returns c =
    let kept =
    filter_same _ (λ t. not (t == c.args.snap)) _ (λ x b f h. search rules) c.self.inside.snaps.items c.retain.new.self.items c.retain.ensures.filtered in
    let listed = ap reverse kept ∙ reverse_filter (λ t. not (t == c.args.snap)) c.self.inside.snaps.items in
    (λ i. record { seq = c.seq_of-self-inside.ensures i; snaps = listed i })
    ∙ ap (λ (o : Own). record { seq = c.args.number; snaps = filter (λ t. not (t == c.args.snap)) o.snaps }) c.self.view_is
