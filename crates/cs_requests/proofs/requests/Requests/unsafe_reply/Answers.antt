use Rattle.std.proofs.Common.{◌≡◌, ◌==◌, ◌∙◌, Some, ap, is_some, map, sym}
use Rattle.std.specs.Map.{lookup}
use Rattle.std.specs.Option.{option_copied_mut}
use Rattle.cs_requests.specs.Requests.{answered, is_open}
use Rattle.cs_requests.proofs.Lists.{answered-none, ascend-answered, each-answered, is_open-lookup, values-answered}
use Rattle.cs_requests.proofs.requests.Requests.unsafe_reply.Goals as goal

pub returns-in_default-clause-opens : goal.returns-in_default-clause-opens
returns-in_default-clause-opens c =
    sym (ap (λ v. is_open c.args.t v.requests) (sym c.self.view_is)
    ∙ is_open-lookup _ c.args.t c.self.inside.requests.entries c.self.invariant.each
    ∙ ap is_some (sym c.get_mut.ensures.value ∙ ap option_copied_mut c.in_default.is))

pub returns-in_default-clause-requests : goal.returns-in_default-clause-requests
returns-in_default-clause-requests c =
    let none = is_open-lookup _ c.args.t c.self.inside.requests.entries c.self.invariant.each
    ∙ ap is_some (sym c.get_mut.ensures.value ∙ ap option_copied_mut c.in_default.is) in
    rw c.get_mut.follows.holds-at-none
    ((λ j. record { sent = c.self.inside.sent; requests = sym (answered-none c.args.t c.args.a _ none) j })
    ∙ (λ j. record { sent = (c.self.view_is j).sent; requests = map (answered c.args.t c.args.a) (c.self.view_is j).requests }))

found : (c : goal.After-self-2-1) → lookup (λ k. c.args.t == k) c.self.inside.requests.entries ≡ Some c.in-Some.request.now
found c = sym c.get_mut.ensures.value ∙ ap option_copied_mut c.in-Some.is

pub invariant_of-self-2 : goal.invariant_of-self-2
invariant_of-self-2 c =
    rw (c.get_mut.follows.holds _).0
    (record {
      each = each-answered _ c.args.t c.args.a c.in-Some.request.now _ c.self.invariant.each (found c);
      order = rw (values-answered _ c.args.t 0 c.args.a c.in-Some.request.now c.self.inside.requests.entries c.self.invariant.each
          c.self.invariant.order (found c))
          (ascend-answered c.args.t c.args.a 0 _ c.self.invariant.order);
    })

pub returns-clause-opens : goal.returns-clause-opens
returns-clause-opens c =
    sym (ap (λ v. is_open c.args.t v.requests) (sym c.self.view_is)
    ∙ is_open-lookup _ c.args.t c.self.inside.requests.entries c.self.invariant.each ∙ ap is_some (found c))

pub returns-clause-requests : goal.returns-clause-requests
returns-clause-requests c =
    rw (c.get_mut.follows.holds _).0
    ((λ j. record {
      sent = c.self.inside.sent;
      requests = values-answered _ c.args.t 0 c.args.a c.in-Some.request.now c.self.inside.requests.entries c.self.invariant.each
          c.self.invariant.order (found c) j;
    })
    ∙ (λ j. record { sent = (c.self.view_is j).sent; requests = map (answered c.args.t c.args.a) (c.self.view_is j).requests }))
