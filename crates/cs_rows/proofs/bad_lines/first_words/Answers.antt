use Rattle.std.proofs.Common.{refl}
use Rattle.cs_laws.specs.Grammar.{script_of, line_event, event_of, event_by}
use Rattle.cs_rows.proofs.bad_lines.first_words.Goals as goal

pub returns : goal.returns
unfolding script_of line_event event_of event_by
returns c = refl
