-- All laws together.
use Rattle.std.proofs.Common.{ℕ, List}
use Rattle.cs_laws.specs.declared.answers.Entry.{Entry}
use Rattle.cs_laws.specs.Laws.{Laws}
use Rattle.cs_laws.specs.Runs.{IsRun}
use Rattle.cs_theorems.proofs.AcksFree.{acks_free}
use Rattle.cs_theorems.proofs.HeldCovers.{held_covers}
use Rattle.cs_theorems.proofs.OnceStanding.{flushes_once}
use Rattle.cs_theorems.proofs.RequestLaws.{leases_stand, replies_stand, requests_once}
use Rattle.cs_theorems.proofs.Uses.{uses_issued}

pub lawful : (p : ℕ) (h : List Entry) → IsRun p h → Laws h
lawful p h run = record {
  uses_are_issued = uses_issued p h run;
  acks_are_free = acks_free p h run;
  flushes_stand_once = flushes_once p h run;
  held_covers_implemented = held_covers p h run;
  requests_stand_once = requests_once p h run;
  replies_stand = replies_stand p h run;
  leases_stand = leases_stand p h run;
}
