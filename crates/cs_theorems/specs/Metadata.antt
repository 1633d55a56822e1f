-- The metadata that the server's records tell of a file, and the file's writes.
use Rattle.std.specs.Prelude.{◌≡◌, ℕ, List, false}
use Rattle.cs_laws.specs.declared.answers.Entry.{Entry}
use Rattle.cs_laws.specs.declared.objects.At.{At}
use Rattle.cs_laws.specs.History.{stand, writes}
use Rattle.cs_laws.specs.Metadata.{meta_at}
use Rattle.cs_laws.specs.Owed.{is_metadata_owed, mode_at}
use Rattle.cs_laws.specs.Shown.{writes_at}
use Rattle.cs_laws.specs.Flushes.{written_meta}

-- at each state whose metadata isn't owed a file's metadata is that of the state's writes, with the mode that the file had then
abbrev pub MetadataIsOfTheWrites : List Entry → Type 0
MetadataIsOfTheWrites h =
    (f : ℕ) (a : At) → is_metadata_owed h f a ≡ false → meta_at f a (stand h) ≡ written_meta (mode_at h f a) (writes_at a (writes h f))
