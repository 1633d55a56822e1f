-- What the readers of a script give.
use Rattle.std.specs.Prelude.{◌≡◌, List, [], ◌∷◌, ◌++◌, Result, Ok, Err, ℕ}
use Rattle.cs_laws.specs.declared.faults.Kind.{Kind}
use Rattle.cs_laws.specs.declared.faults.ScriptFault.{ScriptFault}
use Rattle.cs_script.specs.declared.lines.ParseFault.{ParseFault}
use Rattle.cs_script.specs.declared.lines.ParseFault.TheVariants as faults
use Rattle.cs_script.specs.Reading.{IsFaultOf}
use Rattle.cs_trim_script.specs.declared.events.Event.{Event}
use Rattle.cs_trim_script.specs.declared.line_fault.LineFault.{LineFault}
use Rattle.cs_trim_script.specs.declared.line_fault.LineFault.TheVariants as line_faults

-- a line's fault is of the kind that reading gives, and want of memory says nothing
abbrev pub IsKindOf : {X : Type 0} → LineFault → Result X Kind → Type 0
IsKindOf line_faults.Memory read = Unit {0}
IsKindOf (line_faults.Kind k) read = read ≡ Err k

-- what a function returned is what reading gives, unless memory ran out
abbrev pub Spells : {X : Type 0} → Result X LineFault → Result X Kind → Type 0
Spells (Ok x) read = read ≡ Ok x
Spells (Err f) read = IsKindOf f read

-- a script's fault, where the line of this number isn't read
abbrev pub fault_at : ℕ → LineFault → ParseFault
fault_at n (line_faults.Kind k) = faults.Fault (record { line = n; kind = k })
fault_at n line_faults.Memory = faults.Memory

-- the event that was read stands behind the others
abbrev pub PushesTo : List Event → List Event → Result Event ScriptFault → Type 0
PushesTo old new (Ok e) = new ≡ old ++ e ∷ []
PushesTo old new (Err f) = ⊥

abbrev pub Pushes : List Event → List Event → Result (Unit {0}) ParseFault → Result Event ScriptFault → Type 0
Pushes old new (Ok x) read = PushesTo old new read
Pushes old new (Err e) read = IsFaultOf e read
