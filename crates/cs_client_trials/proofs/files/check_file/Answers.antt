use Rattle.cs_client_trials.proofs.files.check_file.Goals as goal

pub step-requires-clause-drawn : goal.step-requires-clause-drawn
step-requires-clause-drawn g c = c.in_ok-give.ensures.drawn 2 c.in_ok-told_of_file.ensures.drawn
