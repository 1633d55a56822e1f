use Rattle.cs_records.proofs.Logs.{log_next}
use Rattle.cs_records.proofs.laws.a_record_of_a_log_is_the_next_one.Goals as goal

pub returns : goal.returns
returns c = log_next
