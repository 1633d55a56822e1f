use Rattle.cs_leases.proofs.leases.Leases.TheSendSync as leases
use Rattle.cs_leases.proofs.laws.values_may_cross_threads.Goals as goal

pub returns-clause-table : goal.returns-clause-table
returns-clause-table c = leases.the_send
