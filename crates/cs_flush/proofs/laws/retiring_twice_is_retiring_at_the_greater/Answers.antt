use Rattle.cs_flush.proofs.Retired.{retired-retired}
use Rattle.cs_flush.proofs.laws.retiring_twice_is_retiring_at_the_greater.Goals as goal

pub returns : goal.returns
returns c = retired-retired
