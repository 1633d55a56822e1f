use Rattle.cs_theorems.proofs.Spelled.{records_fit}
use Rattle.cs_theorems.proofs.spellings.records_fit.Goals as goal

pub returns : goal.returns
returns c = records_fit
