-- The status of what was written.
use Rattle.std.proofs.Common.{refl, ℕ, ◌<◌, inl, inr, List, Option, Result, Ok, Err, OnOk, OnErr, IsErrOf, arith}
use Rattle.std.specs.Io.KnownBytes.{Appends}
use Rattle.cs_ids.specs.Devices.{Rose}
use Rattle.cs_io.specs.Whole.{AppendsFront}
use Rattle.cs_status.specs.declared.write_fault.WriteFault.{WriteFault}
use Rattle.cs_status.specs.declared.write_fault.WriteFault.TheVariants as writing
use Rattle.cs_status.specs.Writes.{Writes}
use Rattle.cs_status.specs.Statuses.{write_status}

pub writes : (whole : ℕ) (r : Result (Unit {0}) WriteFault) (bytes : List ℕ) (a b : Option (List ℕ)) (m n : ℕ) → whole < 4
    → OnOk r (Appends a b bytes) → OnErr r (AppendsFront a b bytes) → (IsErrOf r writing.Sink → Rose m n)
    → Writes whole (write_status whole r) bytes a b m n
writes whole (Ok x) bytes a b m n small ok err cause = record {
  whole = λ e. ok;
  cut = λ s. absurd (omega arith);
  sink = λ e. absurd (omega arith);
  known = inl refl;
}
writes whole (Err writing.Sink) bytes a b m n small ok err cause = record {
  whole = λ e. absurd (omega arith);
  cut = λ s. err;
  sink = λ e. cause refl;
  known = inr (inl refl);
}
writes whole (Err writing.Memory) bytes a b m n small ok err cause = record {
  whole = λ e. absurd (omega arith);
  cut = λ s. err;
  sink = λ e. absurd (omega arith);
  known = inr (inr refl);
}
