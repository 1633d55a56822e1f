use Rattle.cs_gate.proofs.Theorems.{drained_apart, drained_out}
use Rattle.std.proofs.Common.{refl}
use Rattle.cs_gate.specs.declared.views.KeeperState.TheVariants.{Drained}
use Rattle.cs_gate.proofs.laws.nobody_is_inside_when_drained.Goals as goal

pub returns-clause-always : goal.returns-clause-always
returns-clause-always c = λ plan word views seat g reached here. drained_apart plan word views seat (Drained g) reached here refl

pub returns-clause-handles : goal.returns-clause-handles
returns-clause-handles c = drained_out
