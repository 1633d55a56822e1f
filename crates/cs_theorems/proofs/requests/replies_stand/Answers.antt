use Rattle.cs_theorems.proofs.RequestLaws.{replies_stand}
use Rattle.cs_theorems.proofs.requests.replies_stand.Goals as goal

pub returns : goal.returns
returns c = replies_stand
