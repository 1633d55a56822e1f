use Rattle.std.proofs.Common.{refl}
use Rattle.cs_trim_script.specs.Grammar.{script_of, line_event, event_of, event_by, remove_of, write_of, clones_of, read_of}
use Rattle.cs_trim_script.proofs.rows.bad_lines.Goals as goal

pub returns : goal.returns
unfolding script_of line_event event_of event_by remove_of write_of clones_of read_of
returns c = refl
