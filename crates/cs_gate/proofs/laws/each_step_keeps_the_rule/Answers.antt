use Rattle.cs_gate.proofs.RuleKept.{step_keeps, split_keeps, join_keeps}
use Rattle.cs_gate.proofs.laws.each_step_keeps_the_rule.Goals as goal

pub returns-clause-steps : goal.returns-clause-steps
returns-clause-steps c = λ plan word views seat v kind. step_keeps kind plan word views seat v

pub returns-clause-splits : goal.returns-clause-splits
returns-clause-splits c = split_keeps

pub returns-clause-joins : goal.returns-clause-joins
returns-clause-joins c = join_keeps
