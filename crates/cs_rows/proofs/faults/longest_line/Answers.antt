use Rattle.std.proofs.Common.{refl}
use Rattle.cs_laws.specs.Grammar.{script_of}
use Rattle.cs_rows.proofs.faults.longest_line.Goals as goal

pub returns : goal.returns
unfolding script_of
returns c = refl
