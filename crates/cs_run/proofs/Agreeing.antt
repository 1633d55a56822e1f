-- A store and a log that hold nothing agree with the journal of no event.
use Rattle.std.proofs.Common.{[]}
use Rattle.cs_run.specs.Held.{Held, AgreesAt, IsBlank}

pub nothing_agrees : (held : Held) → IsBlank held → AgreesAt [] held
nothing_agrees held blank = record {
  operations = blank.store;
  log = record { spelled = blank.log; durable = blank.durable };
  states = λ f a known stands gone covers owes. absurd (cc);
}
