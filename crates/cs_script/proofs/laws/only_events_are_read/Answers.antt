use Rattle.cs_script.proofs.RoundTrip.{only_line_read, only_text_read}
use Rattle.cs_script.proofs.laws.only_events_are_read.Goals as goal

pub returns-clause-words : goal.returns-clause-words
returns-clause-words c = only_text_read

pub returns-clause-line : goal.returns-clause-line
returns-clause-line c = only_line_read
