use Rattle.cs_records.proofs.Logs.{log_front}
use Rattle.cs_records.proofs.laws.a_front_of_a_log_is_a_log.Goals as goal

pub returns : goal.returns
returns c = log_front
