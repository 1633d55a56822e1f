use Rattle.cs_faults.proofs.plan.FaultPlan.TheSendSync as fault_plan
use Rattle.cs_faults.proofs.laws.values_may_cross_threads.Goals as goal

pub returns-clause-plan : goal.returns-clause-plan
returns-clause-plan c = fault_plan.the_send
