use Rattle.cs_files.proofs.Rows.{rows_follow}
use Rattle.cs_files.proofs.laws.rows_follow_the_history.Goals as goal

pub returns : goal.returns
returns c = rows_follow
