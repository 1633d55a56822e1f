use Rattle.std.proofs.Common.{◌≡◌, ◌∙◌, is_some, ap, sym}
use Rattle.std.specs.Option.{option_copied}
use Rattle.cs_requests.specs.Requests.{open_at}
use Rattle.cs_requests.proofs.Lists.{is_open-found, is_some-copied, lookup-open}
use Rattle.cs_requests.proofs.requests.Requests.find.Goals as goal

found : (c : goal.After-get) → option_copied c.get.result ≡ open_at c.args.t c.args.self.now.requests
found c = c.get.ensures.value ∙ (lookup-open _ c.args.t c.self.inside.requests.entries c.self.invariant.each
    ∙ ap (λ v. open_at c.args.t v.requests) c.self.view_is)

pub returns-clause-found : goal.returns-clause-found
returns-clause-found c = found c

pub returns-clause-opens : goal.returns-clause-opens
returns-clause-opens c = sym (is_some-copied c.get.result) ∙ (ap is_some (found c) ∙ is_open-found c.args.t c.args.self.now.requests)
