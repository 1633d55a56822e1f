use Rattle.std.proofs.Common.{refl}
use Rattle.cs_rows.proofs.runs.two_objects.Goals as goal

pub returns : goal.returns
returns c = refl
