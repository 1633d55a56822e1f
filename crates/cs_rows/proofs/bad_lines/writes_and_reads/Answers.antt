use Rattle.std.proofs.Common.{refl}
use Rattle.cs_laws.specs.Grammar.{script_of, line_event, event_of, event_by, write_of, read_of}
use Rattle.cs_rows.proofs.bad_lines.writes_and_reads.Goals as goal

pub returns : goal.returns
unfolding script_of line_event event_of event_by write_of read_of
returns c = refl
