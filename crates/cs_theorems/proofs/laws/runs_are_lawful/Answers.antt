use Rattle.cs_theorems.proofs.Together.{lawful}
use Rattle.cs_theorems.proofs.laws.runs_are_lawful.Goals as goal

pub returns : goal.returns
returns c = lawful
