use Rattle.std.proofs.Common.{refl}
use Rattle.cs_laws.specs.Grammar.{script_of, line_event, event_of, event_by, file_of, begin_of, end_of, check_of, grant_of, revoke_of}
use Rattle.cs_rows.proofs.faults.late_file.Goals as goal

pub returns : goal.returns
unfolding script_of line_event event_of event_by file_of begin_of end_of check_of grant_of revoke_of
returns c = refl
