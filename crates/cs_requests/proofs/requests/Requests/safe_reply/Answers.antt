use Rattle.std.proofs.Common.{◌≡◌, ◌∙◌, cond, false, true, not, ap, is_some, sym}
use Rattle.std.specs.Map.{values_of}
use Rattle.std.specs.Option.{option_and_then, option_copied}
use Rattle.cs_requests.specs.Requests.{is_told, without}
use Rattle.cs_requests.proofs.Lists.{ascend-without, each-without, is_told-lookup, values-without}
use Rattle.cs_requests.proofs.requests.Requests.safe_reply.Goals as goal

-- nothing was found
none_told : (c : goal.In_default) → is_told c.args.t c.args.self.now.requests ≡ false
none_told c =
    ap (λ v. is_told c.args.t v.requests) (sym c.self.view_is)
    ∙ is_told-lookup _ c.args.t c.self.inside.requests.entries c.self.invariant.each
    ∙ ap (λ o. is_some (option_and_then (λ r. r.answer) o)) (sym c.get.ensures.value ∙ ap option_copied c.in_default.is)

pub returns-in_default-clause-told : goal.returns-in_default-clause-told
returns-in_default-clause-told c = sym (none_told c)

pub returns-in_default-clause-requests : goal.returns-in_default-clause-requests
returns-in_default-clause-requests c = λ j. cond (sym (none_told c) j)
    (record c.args.self.now { requests = without c.args.t c.args.self.now.requests }) c.args.self.now

-- no answer came
untold : (c : goal.Then-is_none) → is_told c.args.t c.args.self.now.requests ≡ false
untold c =
    ap (λ v. is_told c.args.t v.requests) (sym c.self.view_is)
    ∙ is_told-lookup _ c.args.t c.self.inside.requests.entries c.self.invariant.each
    ∙ ap (λ o. is_some (option_and_then (λ r. r.answer) o)) (sym c.get.ensures.value ∙ ap option_copied c.in-Some.is)
    ∙ c.is_none.ensures ∙ ap not c.if-is_none.true

pub returns-then-is_none-clause-told : goal.returns-then-is_none-clause-told
returns-then-is_none-clause-told c = sym (untold c)

pub returns-then-is_none-clause-requests : goal.returns-then-is_none-clause-requests
returns-then-is_none-clause-requests c = λ j. cond (sym (untold c) j)
    (record c.args.self.now { requests = without c.args.t c.args.self.now.requests }) c.args.self.now

told : (c : goal.Joined-shift_remove) → is_told c.args.t c.args.self.now.requests ≡ true
told c =
    ap (λ v. is_told c.args.t v.requests) (sym c.self.view_is)
    ∙ is_told-lookup _ c.args.t c.self.inside.requests.entries c.self.invariant.each
    ∙ ap (λ o. is_some (option_and_then (λ r. r.answer) o)) (sym c.get.ensures.value ∙ ap option_copied c.in-Some.is)
    ∙ c.is_none.ensures ∙ ap not c.if-is_none.false

left : (c : goal.Joined-shift_remove) → values_of c.shift_remove.new.self.entries
    ≡ without c.args.t (values_of c.self.inside.requests.entries)
left c = ap values_of c.shift_remove.ensures.entries
    ∙ values-without _ c.args.t 0 c.self.inside.requests.entries c.self.invariant.each c.self.invariant.order

pub invariant_of-self : goal.invariant_of-self
invariant_of-self c = record {
  each = rw c.shift_remove.ensures.entries (each-without _ _ _ c.self.invariant.each);
  order = rw (left c) (ascend-without c.args.t 0 _ c.self.invariant.order);
}

pub returns-clause-told : goal.returns-clause-told
returns-clause-told c = sym (told c)

pub returns-clause-requests : goal.returns-clause-requests
returns-clause-requests c =
    (λ j. record { sent = (c.self.view_is j).sent; requests = (left c ∙ (λ k. without c.args.t (c.self.view_is k).requests)) j })
    ∙ (λ j. cond (sym (told c) j) (record c.args.self.now { requests = without c.args.t c.args.self.now.requests }) c.args.self.now)
