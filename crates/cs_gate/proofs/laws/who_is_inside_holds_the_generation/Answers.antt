use Rattle.cs_gate.proofs.Theorems.{inside_held, keeper_holds}
use Rattle.cs_gate.proofs.laws.who_is_inside_holds_the_generation.Goals as goal

pub returns-clause-always : goal.returns-clause-always
returns-clause-always c = inside_held

pub returns-clause-handles : goal.returns-clause-handles
returns-clause-handles c = keeper_holds
