use denote.Param.Send.{view_sync}
use Rattle.cs_gate.proofs.Crossing.{keeper_fields, pass_fields}
use Rattle.cs_gate.proofs.keeper.Keeper.TheSendSync as keeper
use Rattle.cs_gate.proofs.pass.Pass.TheSendSync as pass
use Rattle.cs_gate.proofs.laws.handles_may_cross_threads.Goals as goal

pub returns-clause-keeper : goal.returns-clause-keeper
returns-clause-keeper c = (keeper.the_send, view_sync _ _ _ _ _ keeper_fields)

pub returns-clause-pass : goal.returns-clause-pass
returns-clause-pass c = (pass.the_send, view_sync _ _ _ _ _ pass_fields)
