use Rattle.cs_status.proofs.Fronts.{took_nothing}
use Rattle.cs_status.proofs.end_line.write_end.Goals as goal

pub returns-in_default-clause-err : goal.returns-in_default-clause-err
returns-in_default-clause-err g c = took_nothing _ _
