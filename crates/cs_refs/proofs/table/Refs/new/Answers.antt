use Rattle.cs_refs.proofs.Entries.{zeros}
use Rattle.cs_refs.proofs.table.Refs.new.Goals as goal

pub returns-clause-begun : goal.returns-clause-begun
returns-clause-begun c = zeros 33
