use Rattle.cs_records.proofs.Changed.{removal_records}
use Rattle.cs_records.proofs.laws.a_removal_tells_its_realm_alone.Goals as goal

pub returns : goal.returns
returns c = removal_records
