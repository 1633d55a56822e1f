use Rattle.cs_theorems.proofs.RequestLaws.{requests_once}
use Rattle.cs_theorems.proofs.requests.requests_stand_once.Goals as goal

pub returns : goal.returns
returns c = requests_once
