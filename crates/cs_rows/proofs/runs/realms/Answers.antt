use Rattle.std.proofs.Common.{refl}
use Rattle.std.specs.Fmt.{digits}
use Rattle.cs_laws.specs.Grammar.{script_of, line_event, event_of, event_by, dir_of, file_of, snap_of, remove_of, show_of}
use Rattle.cs_rows.proofs.runs.realms.Goals as goal

pub returns-clause-read : goal.returns-clause-read
unfolding script_of line_event event_of event_by dir_of file_of snap_of remove_of show_of
returns-clause-read c = refl

pub returns-clause-written : goal.returns-clause-written
unfolding digits
returns-clause-written c = refl

pub returns-clause-covered : goal.returns-clause-covered
returns-clause-covered c = refl
