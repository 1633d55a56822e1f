-- What contracts see of the table of references.
use Rattle.std.specs.Prelude.{◌≡◌, ℕ, List, length, count_by, slice_index}
use Rattle.cs_parts.specs.declared.references.Live.{Live}
use Rattle.cs_parts.specs.References.{is_writer_of}
use Rattle.cs_refs.specs.declared.fault.RefFault.{RefFault}
use Rattle.cs_refs.specs.declared.fault.RefFault.TheVariants.{Full, Memory}

-- the live references, oldest first, and at each caller's number how many it has begun
pub record RefTable : Type 0 where
  pub live : List Live
  pub begun : List ℕ

abbrev pub begun_of : ℕ → RefTable → ℕ
begun_of caller t = slice_index t.begun caller

abbrev pub writers_of : ℕ → List Live → ℕ
writers_of f rs = count_by (is_writer_of f) rs

-- the table is full, at as many live references as the fault says; want of memory needs no cause
abbrev pub IsCausedBy : RefTable → RefFault → Type 0
IsCausedBy t (Full live) = (live ≡ 256) × (length t.live ≡ 256)
IsCausedBy t Memory = Unit {0}
