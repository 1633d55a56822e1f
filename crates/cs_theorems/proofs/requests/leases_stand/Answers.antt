use Rattle.cs_theorems.proofs.RequestLaws.{leases_stand}
use Rattle.cs_theorems.proofs.requests.leases_stand.Goals as goal

pub returns : goal.returns
returns c = leases_stand
