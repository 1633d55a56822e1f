use Rattle.std.proofs.Common.{refl}
use Rattle.cs_laws.specs.Grammar.{script_of, line_event, event_of, event_by, lookup_of, names_of, name_req_of, rename_req_of, req_by, req_of, unlease_of}
use Rattle.cs_rows.proofs.bad_lines.requests_and_leases.Goals as goal

pub returns : goal.returns
unfolding script_of line_event event_of event_by lookup_of names_of name_req_of rename_req_of req_by req_of unlease_of
returns c = refl
