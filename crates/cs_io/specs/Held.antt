-- What the forms in memory hold.
use Rattle.std.specs.Prelude.{ℕ, List, Option, Some}
use Rattle.cs_io.specs.declared.memory.MemSource.{MemSource}
use Rattle.cs_io.specs.declared.memory.MemSink.{MemSink}

-- the bytes that a source in memory has left
abbrev pub source_left : MemSource → Option (List ℕ)
source_left s = Some s

-- the bytes that a sink in memory has taken
abbrev pub sink_taken : MemSink → Option (List ℕ)
sink_taken s = Some s.taken
