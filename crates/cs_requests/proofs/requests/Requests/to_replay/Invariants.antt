use Rattle.std.proofs.Common.{◌≡◌, map, take}
use Rattle.cs_requests.specs.Requests.{message_of}
use Rattle.cs_requests.proofs.requests.Requests.to_replay.Given as goal

abbrev pub invariant-loop-request : goal.invariant-loop-request
invariant-loop-request l = l.list ≡ map message_of (take l.request-index l.request-items)
