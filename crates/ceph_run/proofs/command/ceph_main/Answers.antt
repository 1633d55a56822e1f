use Rattle.std.proofs.Common.{Err, arith}
use Rattle.cs_io.specs.declared.whole.ReadFault.TheVariants as reading
use Rattle.cs_run.specs.Held.{Held, IsBlank}
use Rattle.cs_run.proofs.Serving.{unread}
use Rattle.cs_status.specs.Writes.{usage_line}
use Rattle.cs_status.specs.declared.write_fault.WriteFault.TheVariants as writing
use Rattle.cs_status.proofs.Fronts.{took_nothing}
use Rattle.cs_status.proofs.Writing.{writes}
use Rattle.cs_trim_run.proofs.Ending as trims
use Rattle.ceph_run.proofs.command.ceph_main.Goals as goal

-- For want of memory nothing was read and nothing written.
pub returns-in-Err-Memory-clause-served : goal.returns-in-Err-Memory-clause-served
returns-in-Err-Memory-clause-served g c =
    let held : Held =
    record { ops = g.O.ObjStore.ops c.args.store; records = g.L.MdsLog.records c.args.log; durable = g.L.MdsLog.durable c.args.log } in
    let blank : IsBlank held = record { store = c.requires.store; log = c.requires.log; durable = c.requires.durable } in
    λ pages _. unread pages reading.Memory _ _ _ _ _ _ held _ _ (λ is. cc) blank

pub returns-in-Err-Memory-clause-trimmed : goal.returns-in-Err-Memory-clause-trimmed
returns-in-Err-Memory-clause-trimmed g c = λ _. trims.unread reading.Memory _ _ _ _ _ _ (λ is. cc)

pub returns-in-Err-Memory-clause-usage : goal.returns-in-Err-Memory-clause-usage
returns-in-Err-Memory-clause-usage g c = λ _.
    writes 1 (Err writing.Memory) usage_line _ _ _ _ (omega arith) tt (took_nothing _ usage_line) (λ e. cc)
