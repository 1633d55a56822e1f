-- The status of a run.
use Rattle.std.specs.Prelude.{ℕ, Result, Ok, Err}
use Rattle.cs_laws.specs.declared.faults.StepFault.{StepFault}
use Rattle.cs_laws.specs.declared.faults.StepFault.TheVariants as stepping
use Rattle.cs_run.specs.declared.run_fault.RunFault.{RunFault}
use Rattle.cs_run.specs.declared.run_fault.RunFault.TheVariants as running
use Rattle.cs_status.specs.declared.write_fault.WriteFault.{WriteFault}
use Rattle.cs_status.specs.declared.write_fault.WriteFault.TheVariants as writing

abbrev pub of_write : WriteFault → RunFault
of_write writing.Sink = running.Sink
of_write writing.Memory = running.Memory

abbrev pub of_step : StepFault → RunFault
of_step stepping.Store = running.Store
of_step stepping.Log = running.Log
of_step stepping.Memory = running.Memory

abbrev pub run_status : Result (Unit {0}) RunFault → ℕ
run_status (Ok x) = 0
run_status (Err running.Sink) = 5
run_status (Err running.Store) = 6
run_status (Err running.Log) = 7
run_status (Err running.Memory) = 8
