use Rattle.cs_client_trials.proofs.requests.use_made_file.Goals as goal

pub begin-requires-clause-drawn : goal.begin-requires-clause-drawn
begin-requires-clause-drawn g c = c.in_ok-give.ensures.drawn 2 c.in_ok-made_file.ensures.drawn
