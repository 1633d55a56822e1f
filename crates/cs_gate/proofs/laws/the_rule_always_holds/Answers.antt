use Rattle.cs_gate.proofs.RuleKept.{rule_of}
use Rattle.cs_gate.proofs.laws.the_rule_always_holds.Goals as goal

pub returns : goal.returns
returns c = rule_of
