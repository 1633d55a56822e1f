use Rattle.cs_refs.proofs.table.Refs.TheSendSync as refs
use Rattle.cs_refs.proofs.laws.values_may_cross_threads.Goals as goal

pub returns-clause-table : goal.returns-clause-table
returns-clause-table c = refs.the_send
