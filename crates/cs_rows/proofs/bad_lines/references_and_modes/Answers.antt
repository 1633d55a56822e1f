use Rattle.std.proofs.Common.{refl}
use Rattle.cs_bits.specs.Bits.{caps_text, caps_of}
use Rattle.cs_laws.specs.Grammar.{script_of, line_event, event_of, event_by, begin_of, end_of, chmod_of}
use Rattle.cs_rows.proofs.bad_lines.references_and_modes.Goals as goal

pub returns : goal.returns
unfolding script_of line_event event_of event_by begin_of end_of chmod_of caps_of caps_text
returns c = refl
