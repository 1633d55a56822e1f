-- Lines that spell no event, each with what is wrong with it.
use Rattle.std.specs.Prelude.{◌≡◌, ℕ, List, [], ◌∷◌, ◌++◌, codes, map, Result, Err}
use Rattle.cs_laws.specs.declared.faults.Kind.{Kind}
use Rattle.cs_laws.specs.declared.faults.Kind.TheVariants as kinds
use Rattle.cs_laws.specs.declared.faults.ScriptFault.{ScriptFault}
use Rattle.cs_trim_script.specs.declared.events.Event.{Event}
use Rattle.cs_trim_script.specs.Grammar.{script_of}

abbrev pub Row : Type 0
Row = List ℕ × Kind

-- a script of a header and this line
abbrev pub read : Row → Result (List Event) ScriptFault
read row = script_of (codes "ceph-trim 1\n" ++ row.0)

abbrev pub refused : Row → Result (List Event) ScriptFault
refused row = Err (record { line = 2; kind = row.1 })

-- each line is refused for its own kind of fault
abbrev pub AreRefused : List Row → Type 0
AreRefused rows = map read rows ≡ map refused rows

abbrev pub lines : List Row
lines =
    (codes "snap 1", kinds.Extra) ∷
    (codes "snap ", kinds.Extra) ∷
    (codes "rmsnap", kinds.Word) ∷
    (codes "rmsnap ", kinds.Number) ∷
    (codes "rmsnap 01", kinds.Number) ∷
    (codes "rmsnap 0", kinds.Range) ∷
    (codes "rmsnap 100000", kinds.Range) ∷
    (codes "rmsnap 1 1", kinds.Extra) ∷
    (codes "rmsnap 0 1", kinds.Range) ∷
    (codes "write", kinds.Word) ∷
    (codes "write 0", kinds.Word) ∷
    (codes "write 0 0", kinds.Word) ∷
    (codes "write a 0 61", kinds.Number) ∷
    (codes "write 64 0 61", kinds.Range) ∷
    (codes "write 0 -1 61", kinds.Number) ∷
    (codes "write 0 65536 61", kinds.Range) ∷
    (codes "write 0 0 6", kinds.Word) ∷
    (codes "write 0 0 6A", kinds.Word) ∷
    (codes "write 0 0 ", kinds.Word) ∷
    (codes "write 0 0 61 1", kinds.Extra) ∷
    (codes "write 0 65535 6161", kinds.Range) ∷
    (codes "write 0 65535 6161 1", kinds.Extra) ∷
    (codes "write 64 65536 6", kinds.Range) ∷
    (codes "trim 1", kinds.Extra) ∷
    (codes "clones", kinds.Word) ∷
    (codes "clones 00", kinds.Number) ∷
    (codes "clones 64", kinds.Range) ∷
    (codes "clones 0 0", kinds.Extra) ∷
    (codes "read 0 1 0", kinds.Word) ∷
    (codes "read b 1 0 1", kinds.Number) ∷
    (codes "read 64 1 0 1", kinds.Range) ∷
    (codes "read 0 heads 0 1", kinds.Number) ∷
    (codes "read 0 0 0 1", kinds.Range) ∷
    (codes "read 0 100000 0 1", kinds.Range) ∷
    (codes "read 0 head x 1", kinds.Number) ∷
    (codes "read 0 head 65536 1", kinds.Range) ∷
    (codes "read 0 head 0 0", kinds.Range) ∷
    (codes "read 0 head 0 01", kinds.Number) ∷
    (codes "read 0 head 0 4097", kinds.Range) ∷
    (codes "read 0 head 0 1 1", kinds.Extra) ∷
    (codes "read 0 head 65535 2", kinds.Range) ∷
    (codes "read 0 head 65535 2 1", kinds.Extra) ∷
    (codes " snap", kinds.Word) ∷
    (codes "Snap", kinds.Word) ∷
    (codes "clock 1", kinds.Word) ∷
    (codes "show 0 head 0 1", kinds.Word) ∷
    []
