use Rattle.std.proofs.Common.{refl}
use Rattle.cs_bits.specs.Bits.{caps_text, caps_of}
use Rattle.cs_laws.specs.Grammar.{script_of, line_event, event_of, event_by, file_of, begin_of, grant_of}
use Rattle.cs_rows.proofs.faults.end_too_far.Goals as goal

pub returns : goal.returns
unfolding script_of line_event event_of event_by file_of begin_of grant_of caps_of caps_text
returns c = refl
