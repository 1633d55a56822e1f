use Rattle.std.proofs.Common.{refl}
use Rattle.cs_rows.proofs.runs.after_a_snapshot.Goals as goal

pub returns : goal.returns
returns c = refl
