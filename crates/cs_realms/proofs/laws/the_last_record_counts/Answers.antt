use Rattle.cs_realms.proofs.Stays.{record_of-with}
use Rattle.cs_realms.proofs.laws.the_last_record_counts.Goals as goal

pub returns : goal.returns
returns c = record_of-with
