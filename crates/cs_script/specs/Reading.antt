-- What the readers of a script give.
use Rattle.std.specs.Prelude.{◌≡◌, List, [], ◌∷◌, ◌++◌, ◌&&◌, map, Result, Ok, Err, Bool, ℕ}
use Rattle.std.specs.Borrow.{Bor}
use Rattle.cs_laws.specs.declared.events.Event.{Event}
use Rattle.cs_laws.specs.declared.faults.Kind.{Kind}
use Rattle.cs_laws.specs.declared.faults.ScriptFault.{ScriptFault}
use Rattle.cs_laws.specs.Grammar.{is_setup}
use Rattle.cs_script.specs.declared.line_fault.LineFault.{LineFault}
use Rattle.cs_script.specs.declared.line_fault.LineFault.TheVariants as line_faults
use Rattle.cs_script.specs.declared.lines.ParseFault.{ParseFault}
use Rattle.cs_script.specs.declared.lines.ParseFault.TheVariants as faults

-- the bytes behind a list of references
abbrev pub texts : List (Bor (List ℕ)) → List (List ℕ)
texts ws = map (λ w. w.now) ws

-- what a function returned, seen by view, is what reading gives
abbrev pub Gives : {X Y : Type 0} → (X → Y) → Result X Kind → Result Y Kind → Type 0
Gives view (Ok x) read = read ≡ Ok (view x)
Gives view (Err k) read = read ≡ Err k

-- a line's fault is of the kind that reading gives, and want of memory says nothing
abbrev pub IsKindOf : {X : Type 0} → LineFault → Result X Kind → Type 0
IsKindOf line_faults.Memory read = Unit {0}
IsKindOf (line_faults.Kind k) read = read ≡ Err k

-- what a function returned is what reading gives, unless memory ran out
abbrev pub Spells : {X : Type 0} → Result X LineFault → Result X Kind → Type 0
Spells (Ok x) read = read ≡ Ok x
Spells (Err f) read = IsKindOf f read

-- a script's fault, where the line of this number isn't read
abbrev pub fault_at : ℕ → LineFault → ParseFault
fault_at n (line_faults.Kind k) = faults.Fault (record { line = n; kind = k })
fault_at n line_faults.Memory = faults.Memory

-- a fault is that of reading, and want of memory says nothing
abbrev pub IsFaultOf : {Y : Type 0} → ParseFault → Result Y ScriptFault → Type 0
IsFaultOf faults.Memory read = Unit {0}
IsFaultOf (faults.Fault f) read = read ≡ Err f

-- what a function returned, seen by view, is what reading gives, unless memory ran out
abbrev pub Reads : {X Y : Type 0} → (X → Y) → Result X ParseFault → Result Y ScriptFault → Type 0
Reads view (Ok x) read = read ≡ Ok (view x)
Reads view (Err e) read = IsFaultOf e read

-- the event that was read stands behind the others
abbrev pub PushesTo : List Event → List Event → Bool → Bool → Result Event ScriptFault → Type 0
PushesTo old new setup next (Ok e) = (new ≡ old ++ e ∷ []) × (next ≡ (setup && is_setup e))
PushesTo old new setup next (Err f) = ⊥

abbrev pub Pushes : List Event → List Event → Bool → Result Bool ParseFault → Result Event ScriptFault → Type 0
Pushes old new setup (Ok next) read = PushesTo old new setup next read
Pushes old new setup (Err e) read = IsFaultOf e read
