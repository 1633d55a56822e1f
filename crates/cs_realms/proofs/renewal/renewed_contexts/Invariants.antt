use Rattle.std.proofs.Common.{◌≡◌, map, take}
use Rattle.cs_realms.specs.Renewals.{renewed}
use Rattle.cs_realms.proofs.renewal.renewed_contexts.Given as goal

abbrev pub invariant-loop-place : goal.invariant-loop-place
invariant-loop-place l = l.all.items ≡ map (renewed l.latest l.records) (take l.place l.records)
