-- The status of something that was read or written.
use Rattle.std.specs.Prelude.{ℕ, Result, Ok, Err}
use Rattle.cs_io.specs.declared.whole.ReadFault.{ReadFault}
use Rattle.cs_io.specs.declared.whole.ReadFault.TheVariants as reading
use Rattle.cs_status.specs.declared.write_fault.WriteFault.{WriteFault}
use Rattle.cs_status.specs.declared.write_fault.WriteFault.TheVariants as writing

abbrev pub read_status : ReadFault → ℕ
read_status reading.Failed = 4
read_status reading.Memory = 8

abbrev pub write_status : ℕ → Result (Unit {0}) WriteFault → ℕ
write_status whole (Ok x) = whole
write_status whole (Err writing.Sink) = 5
write_status whole (Err writing.Memory) = 8
