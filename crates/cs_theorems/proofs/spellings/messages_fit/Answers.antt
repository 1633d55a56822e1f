use Rattle.cs_theorems.proofs.Spelled.{messages_fit}
use Rattle.cs_theorems.proofs.spellings.messages_fit.Goals as goal

pub returns : goal.returns
returns c = messages_fit
