-- What is kept of a file's flushes.
use Rattle.std.specs.Prelude.{ℕ, List, [], ◌∷◌, ◌++◌}
use Rattle.cs_ids.specs.declared.objects.FileMeta.{FileMeta}
use Rattle.cs_laws.specs.declared.records.Record.{Record}
use Rattle.cs_records.specs.Places.{places_from}
use Rattle.cs_records.specs.Recorded.{recorded, with_recorded}

pub record Flushed : Type 0 where
  -- the number of each, and the place of its record
  pub places : List (ℕ × ℕ)
  -- each number that one follows, and the metadata of the last one that does
  pub metas : List (ℕ × FileMeta)

abbrev pub none_flushed : Flushed
none_flushed = record { places = []; metas = [] }

-- one more flush, whose record stands at the place n
abbrev pub with_flushed : ℕ → ℕ → ℕ → FileMeta → Flushed → Flushed
with_flushed tid n follows meta s = record { places = s.places ++ (tid, n) ∷ []; metas = with_recorded (follows, meta) s.metas }

-- by the records
abbrev pub flushed : ℕ → List Record → Flushed
flushed f rs = record { places = places_from f 0 rs; metas = recorded f rs }
