use Rattle.std.proofs.Common.{map, subst, sym, rules}
use Rattle.std.proofs.lemmas.Map.Made.{map_same_pairs}
use Rattle.cs_requests.specs.Requests.{IsInOrder, resent}
use Rattle.cs_requests.proofs.Lists.{ascend-resent, each-resent, values-resent}
use Rattle.cs_requests.proofs.requests.Requests.mark_resent.Goals as goal

pub invariant_of-self : goal.invariant_of-self
invariant_of-self c =
    let entries = map_same_pairs _ resent _ (λ k v b w f' t. search rules) _ _ c.retain.ensures.filtered in
    rw entries (record {
      each = each-resent _ _ c.self.invariant.each;
      order = subst (λ rs. IsInOrder rs) (sym (values-resent c.self.inside.requests.entries))
          (ascend-resent 0 _ c.self.invariant.order);
    })

pub returns : goal.returns
returns c =
    let entries = map_same_pairs _ resent _ (λ k v b w f' t. search rules) _ _ c.retain.ensures.filtered in
    rw (entries, values-resent) (λ j. record (c.self.view_is j) { requests = map resent (c.self.view_is j).requests })
