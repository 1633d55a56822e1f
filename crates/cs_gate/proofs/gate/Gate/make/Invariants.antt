use Rattle.std.proofs.Common.{◌≡◌, ◌-◌, [], length, All}
use Rattle.std.specs.Arc.{arc_value}
use Rattle.cs_gate.specs.declared.views.KeeperState.TheVariants.{Drained}
use Rattle.cs_gate.specs.declared.views.Role.TheVariants as roles
use Rattle.cs_gate.specs.Handles.{IsNewPass, gate_id}
use Rattle.cs_gate.proofs.gate.Gate.make.Given as goal

abbrev pub invariant-loop : goal.invariant-loop
invariant-loop l = record {
  table : l.seat.table_id ≡ (arc_value l.gate).word.shared.table_id;
  view : l.seat.me.0 ≡ record { role = roles.Keeper (Drained l.generation); reads = []; spare = l.passes - l.counter };
  count : length l.all.items ≡ l.counter;
  out : All (IsNewPass (gate_id (arc_value l.gate))) l.all.items;
}
