use Rattle.cs_realms.proofs.Ups.{rule_holds}
use Rattle.cs_realms.proofs.laws.contexts_follow_the_rule.Goals as goal

pub returns : goal.returns
returns c = rule_holds
