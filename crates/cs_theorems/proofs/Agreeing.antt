-- The object store and the records together hold, at each state that isn't owed, what the history says.
use Rattle.std.proofs.Common.{ap, ℕ, List}
use Rattle.cs_laws.specs.declared.answers.Entry.{Entry}
use Rattle.cs_laws.specs.Agreement.{StatesReadBack}
use Rattle.cs_laws.specs.Operations.{applied}
use Rattle.cs_laws.specs.Runs.{IsRun}
use Rattle.cs_theorems.specs.Contents.{ObjectsHoldWrites, StatesHoldWrites}
use Rattle.cs_theorems.proofs.Footing.{Footing, footing_run}
use Rattle.cs_theorems.proofs.Images.{contents_of, states_of}
use Rattle.cs_theorems.proofs.Sizes.{of_the_writes}

agrees : (h : List Entry) → Footing h → StatesReadBack (applied h) h
agrees h i f a known standing kept covered free =
    let same = of_the_writes h i f a free in
    record {
      size = ap (λ m. m.size) same;
      mtime = ap (λ m. m.mtime) same;
      mode = ap (λ m. m.mode) same;
      bytes = λ k _. states_of h i.course i.holds a f k;
    }

pub reads_back : (p : ℕ) (h : List Entry) → IsRun p h → StatesReadBack (applied h) h
reads_back p h run = agrees h (footing_run p h run)

pub run_holds : (p : ℕ) (h : List Entry) → IsRun p h → ObjectsHoldWrites h
run_holds p h run = contents_of h (footing_run p h run).holds

pub states_hold : (p : ℕ) (h : List Entry) → IsRun p h → StatesHoldWrites h
states_hold p h run = let i = footing_run p h run in states_of h i.course i.holds
