use Rattle.std.proofs.Common.{◌≡◌, ◌++◌, ◌∙◌, ap, nat_le, filter, max}
use Rattle.cs_snapctx.proofs.Contexts.{contexts_equal, greater_of, merged_is, realm_context_of}
use Rattle.cs_snapctx.proofs.context.SnapContext.merge.Goals as goal

pub returns-clause-meaning : goal.returns-clause-meaning
returns-clause-meaning c =
    let seq : c.max.result ≡ max c.args.own_seq c.args.parent.now.seq =
    c.max.ensures ∙ (greater_of c.args.own_seq c.parent.inside.seq ∙ ap (λ p. max c.args.own_seq p.seq) c.parent.view_is) in
    let all : c.in_ok-all.all.items ≡ (c.args.own.now ++ c.args.prior.now) ++ filter (nat_le c.args.since) c.args.parent.now.snaps =
    c.in_ok-all.ensures ∙ ap (λ snaps. (c.args.own.now ++ c.args.prior.now) ++ filter (nat_le c.args.since) snaps) (c.as_slice.ensures ∙ ap (λ p. p.snaps) c.parent.view_is) in
    rw c.from_vec.ensures
    (realm_context_of c.args.own.now c.args.prior.now c.args.own_seq c.args.parent.now c.args.since c.max.result c.in_ok-all.all.items c.newest_first.result.items seq all
    (record { order = c.newest_first.ensures.order; members = c.newest_first.ensures.members }))

pub returns-clause-value : goal.returns-clause-value
returns-clause-value c = contexts_equal _ _ _ _ _ _ _ (returns-clause-meaning c) (merged_is _ _ _ _ _)
