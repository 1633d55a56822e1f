use Rattle.std.proofs.Common.{◌∙◌, sym, ap}
use Rattle.cs_records.specs.Flushed.{Flushed}
use Rattle.cs_records.specs.Places.{greatest_in}
use Rattle.cs_records.proofs.FlushPlaces.{greatest_last, greatest_none}
use Rattle.cs_records.proofs.flushes.FileFlushes.last_tid.Goals as goal

pub returns-in-Some : goal.returns-in-Some
returns-in-Some c =
    let there = rw c.deref.ensures.value at (sym c.in-Some.ensures.value) in
    c.get.ensures.value
    ∙ (greatest_last c.self.inside.numbers.items c.in-Some.field-0.now c.self.invariant there ∙ ap (λ (s : Flushed). greatest_in s.places) c.self.view_is)

pub returns-in-None : goal.returns-in-None
returns-in-None c =
    let there = rw c.deref.ensures.value at (sym c.in-None.ensures.value) in
    greatest_none c.self.inside.numbers.items there ∙ ap (λ (s : Flushed). greatest_in s.places) c.self.view_is
