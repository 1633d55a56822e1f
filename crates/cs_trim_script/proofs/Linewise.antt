-- A script's events, as far as its lines were read.
use Rattle.std.proofs.Common.{List, ◌++◌, Result, Ok, Err}
use Rattle.cs_laws.specs.declared.faults.ScriptFault.{ScriptFault}
use Rattle.cs_trim_script.specs.declared.events.Event.{Event}

-- these events, and then those read
abbrev pub with_front : List Event → Result (List Event) ScriptFault → Result (List Event) ScriptFault
with_front front (Ok es) = Ok (front ++ es)
with_front front (Err f) = Err f
