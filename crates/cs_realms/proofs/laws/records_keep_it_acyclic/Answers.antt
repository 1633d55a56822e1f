use Rattle.cs_realms.proofs.Stays.{first_acyclic, stays_acyclic}
use Rattle.cs_realms.proofs.laws.records_keep_it_acyclic.Goals as goal

pub returns-clause-first : goal.returns-clause-first
returns-clause-first c = first_acyclic

pub returns-clause-each : goal.returns-clause-each
returns-clause-each c = stays_acyclic
