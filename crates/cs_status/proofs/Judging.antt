-- What holds where an input was refused, or wasn't read.
use Rattle.std.proofs.Common.{refl, ℕ, ◌<◌, List, Option, Some, None, IfSome, arith}
use Rattle.std.specs.Io.KnownBytes.{Keeps}
use Rattle.cs_status.specs.declared.refusal.Refusal.{Refusal}
use Rattle.cs_status.specs.declared.refusal.Refusal.TheVariants as refusals
use Rattle.cs_status.specs.Refusals.{refusal_status}

pub keeps_same : (a : Option (List ℕ)) → Keeps a a
keeps_same None = tt
keeps_same (Some xs) = refl

pub any_some : (left : Option (List ℕ)) (P : List ℕ → Type 0) → ((b : List ℕ) → P b) → IfSome left P
any_some None P all = tt
any_some (Some b) P all = all b

pub refused_small : (r : Refusal) → refusal_status r < 4
refused_small (refusals.Faulty f) = omega arith
refused_small refusals.TooLong = omega arith
refused_small refusals.TooManyEvents = omega arith
refused_small refusals.TooManyFiles = omega arith
refused_small refusals.TooManyDirs = omega arith
