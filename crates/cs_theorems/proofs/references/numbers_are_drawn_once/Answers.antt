use Rattle.cs_theorems.proofs.Begun.{drawn_once}
use Rattle.cs_theorems.proofs.references.numbers_are_drawn_once.Goals as goal

pub returns : goal.returns
returns c = drawn_once
