use Rattle.std.proofs.lemmas.Str.{IsUtf8-from_ascii}
use Rattle.cs_laws.proofs.Ascii.{name_ascii}
use Rattle.cs_laws.proofs.printing.write_name.Goals as goal

pub unreachable-requires : goal.unreachable-requires
unreachable-requires g c = c.in-Err.ensures.cases.0 (IsUtf8-from_ascii c.as_slice.result.now (name_ascii c.as_slice.result.now c.as_slice.ensures.name))
