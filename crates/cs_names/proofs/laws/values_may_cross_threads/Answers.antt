use Rattle.cs_names.proofs.names.Names.TheSendSync as names
use Rattle.cs_names.proofs.laws.values_may_cross_threads.Goals as goal

pub returns-clause-names : goal.returns-clause-names
returns-clause-names c = names.the_send
