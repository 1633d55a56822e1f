use Rattle.cs_client_trials.proofs.steps.with_write.Goals as goal

pub begin-requires-clause-drawn : goal.begin-requires-clause-drawn
begin-requires-clause-drawn g c = c.in_ok-give.ensures.drawn 2 c.in_ok-told_of_file.ensures.drawn
