use Rattle.cs_client.proofs.client.Client.step_call.Goals as goal

pub returns-in-Read-clause-quiet : goal.returns-in-Read-clause-quiet
returns-in-Read-clause-quiet g c = rw c.in-Read.is c.read.ensures.quiet

pub returns-in-Read-clause-faults : goal.returns-in-Read-clause-faults
returns-in-Read-clause-faults g c = rw c.in-Read.is c.read.ensures.faults
