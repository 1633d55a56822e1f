use Rattle.cs_requests.proofs.requests.OpenReq.TheSendSync as open_request
use Rattle.cs_requests.proofs.requests.Requests.TheSendSync as requests
use Rattle.cs_requests.proofs.laws.values_may_cross_threads.Goals as goal

pub returns-clause-requests : goal.returns-clause-requests
returns-clause-requests c = requests.the_send

pub returns-clause-open : goal.returns-clause-open
returns-clause-open c = open_request.the_send
