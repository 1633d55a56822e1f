use Rattle.cs_script.proofs.RoundTrip.{text_read, line_fits}
use Rattle.cs_script.proofs.laws.each_event_is_read.Goals as goal

pub returns-clause-read : goal.returns-clause-read
returns-clause-read c = text_read

pub returns-clause-fits : goal.returns-clause-fits
returns-clause-fits c = line_fits
