use Rattle.std.proofs.Common.{refl}
use Rattle.std.specs.Fmt.{digits}
use Rattle.cs_laws.specs.Grammar.{script_of, line_event, event_of, event_by, write_of}
use Rattle.cs_rows.proofs.good_lines.longest_write.Goals as goal

pub returns-clause-read : goal.returns-clause-read
unfolding script_of line_event event_of event_by write_of
returns-clause-read c = refl

pub returns-clause-printed : goal.returns-clause-printed
unfolding digits
returns-clause-printed c = refl
