use Rattle.std.proofs.Common.{refl}
use Rattle.cs_laws.specs.Grammar.{script_of, line_event, event_of, event_by, dir_of, file_of, clock_of}
use Rattle.cs_rows.proofs.bad_lines.directories_files_and_times.Goals as goal

pub returns : goal.returns
unfolding script_of line_event event_of event_by dir_of file_of clock_of
returns c = refl
