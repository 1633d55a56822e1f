use Rattle.std.proofs.Common.{refl}
use Rattle.std.specs.Fmt.{digits}
use Rattle.cs_trim_script.specs.Grammar.{script_of, line_event, event_of, event_by, remove_of, write_of, clones_of, read_of}
use Rattle.cs_trim_script.proofs.rows.trimmed_between.Goals as goal

pub returns-clause-read : goal.returns-clause-read
unfolding script_of line_event event_of event_by remove_of write_of clones_of read_of
returns-clause-read c = refl

pub returns-clause-written : goal.returns-clause-written
unfolding digits
returns-clause-written c = refl
