-- Two snapshots of a file.
use Rattle.std.specs.Prelude.{true, false, [], ◌∷◌}
use Rattle.cs_snapctx.specs.Context.{empty_context}
use Rattle.cs_capsnap.specs.declared.snap.CapSnap.{CapSnap}
use Rattle.cs_capsnap.specs.CapSnaps.{queued}

-- a writer lives over the first
abbrev pub at_first : CapSnap
at_first = queued empty_context true (record { size = 10; mtime = 1; mode = 420 })

-- it has ended
abbrev pub first_ended : CapSnap
first_ended = queued empty_context false (record { size = 20; mtime = 5; mode = 420 })

-- no writer lives over the second, and the mode has changed
abbrev pub at_second : CapSnap
at_second = queued (record { seq = 1; snaps = 1 ∷ [] }) false (record { size = 20; mtime = 5; mode = 384 })
