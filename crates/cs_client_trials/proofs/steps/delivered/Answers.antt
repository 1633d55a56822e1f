use Rattle.cs_client_trials.proofs.steps.delivered.Goals as goal

pub returns-clause-drawn : goal.returns-clause-drawn
returns-clause-drawn c = λ k drawn.
    c.calls_draw_few_numbers.ensures.deliveries k c.args.client.now c.step_message.new.self c.args.message.now drawn c.in_ok-step_message.ensures.after
