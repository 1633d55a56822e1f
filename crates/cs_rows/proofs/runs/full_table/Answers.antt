use Rattle.std.proofs.Common.{refl}
use Rattle.cs_rows.proofs.runs.full_table.Goals as goal

pub returns : goal.returns
returns c = refl
