use Rattle.std.proofs.Common.{refl}
use Rattle.cs_laws.specs.Grammar.{script_of, line_event, event_of, event_by, snap_of, remove_of, show_of}
use Rattle.cs_rows.proofs.bad_lines.snapshots.Goals as goal

pub returns : goal.returns
unfolding script_of line_event event_of event_by snap_of remove_of show_of
returns c = refl
