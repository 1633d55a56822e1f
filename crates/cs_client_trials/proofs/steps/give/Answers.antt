use Rattle.cs_client_trials.proofs.Contexts.{cap_untold}
use Rattle.cs_client_trials.proofs.steps.give.Goals as goal

pub returns-clause-untold : goal.returns-clause-untold
returns-clause-untold g c = cap_untold c.args.client.now c.delivered.new.client c.args.file _ 4096 c.args.bits c.in_ok-answer.ensures.after
