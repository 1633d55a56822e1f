-- What a `&` to a handle holds says the same to every thread.
use denote.RattleType.{RattleType}
use denote.Param.Send.{IsSend, IsSync, sendable, part_keyless}
use Rattle.std.proofs.sync.Arc.TheSendSync as arc
use Rattle.std.proofs.alloc.Global.TheSendSync as global
use Rattle.std.below.std_heap.proofs.GlobalAllocator.TheSendSync as heap
use Rattle.atomic_table.proofs.shared.Seat.TheSendSync as seat
use Rattle.atomic_table.specs.contracts.shared.Seat.{the_row}
use Rattle.cs_gate.proofs.gate.Gate.TheSendSync as gate
use Rattle.cs_gate.specs.contracts.keeper.Keeper.TheInside as keeper
use Rattle.cs_gate.specs.contracts.pass.Pass.TheInside as pass

seat_sync : (S V : RattleType) → IsSend (the_row S V) → IsSync (the_row S V)
seat_sync S V s = record { shared = λ d b o ν q. part_keyless (the_row S V) s q d b o }

pub keeper_fields : IsSync keeper.the_row
keeper_fields = search (sendable, seat_sync, arc.the_sync, gate.the_send, gate.the_sync, seat.the_send, global.the_send, global.the_sync, heap.the_frees) depth 20

pub pass_fields : IsSync pass.the_row
pass_fields = search (sendable, seat_sync, arc.the_sync, gate.the_send, gate.the_sync, seat.the_send, global.the_send, global.the_sync, heap.the_frees) depth 20
