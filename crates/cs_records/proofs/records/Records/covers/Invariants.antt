use Rattle.std.proofs.Common.{◌≡◌, drop}
use Rattle.cs_laws.specs.Covering.{covers_along}
use Rattle.cs_records.specs.Records.{all}
use Rattle.cs_records.proofs.records.Records.covers.Given as goal

abbrev pub invariant-loop-above : goal.invariant-loop-above
invariant-loop-above l = covers_along l.snap l.dir (all l.self) l.path ≡ covers_along l.snap l.dir (all l.self) (drop l.above-index l.path)
