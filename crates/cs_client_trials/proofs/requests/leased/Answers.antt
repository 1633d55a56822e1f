use Rattle.cs_client.proofs.Leased.{on_ok}
use Rattle.cs_client_trials.proofs.requests.leased.Goals as goal

pub returns : goal.returns
returns g c = on_ok c.found.result (λ keeps. keeps 4 c.in_ok-sent.ensures.drawn) c.found.ensures
