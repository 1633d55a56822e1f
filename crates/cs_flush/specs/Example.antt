-- Two flushes of a file.
use Rattle.cs_flush.specs.declared.sent.Sent.{Sent}

-- a changed mode, flushed before the first snapshot
abbrev pub mode_flushed : Sent
mode_flushed = record { tid = 3; follows = 0; meta = record { size = 10; mtime = 1; mode = 384 } }

-- a write, flushed after it
abbrev pub write_flushed : Sent
write_flushed = record { tid = 5; follows = 1; meta = record { size = 20; mtime = 4; mode = 384 } }
