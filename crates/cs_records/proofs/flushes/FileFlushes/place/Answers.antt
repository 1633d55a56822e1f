use Rattle.std.proofs.Common.{◌≡◌, ◌∙◌, ap, ℕ, ◌<◌, get_or, length, rules, Some}
use Rattle.std.proofs.lemmas.List.Sorted.{answers_always}
use Rattle.cs_records.specs.Flushed.{Flushed}
use Rattle.cs_records.specs.Places.{place_in}
use Rattle.cs_records.proofs.FlushPlaces.{found_at, found_nowhere, place_found}
use Rattle.cs_records.proofs.flushes.FileFlushes.place.Goals as goal

pub returns-in-Ok : goal.returns-in-Ok
returns-in-Ok c =
    let tid = c.args.tid in
    let xs = c.self.inside.numbers.items in
    let i = c.in-Ok.i in
    let y = c.index.result.now in
    let at = c.in-Ok.ensures.position (λ (z : ℕ × ℕ). z.0) (answers_always _ _ _ (λ f a r g called. search rules)) in
    let there : (get_or xs i y).0 ≡ tid = found_at tid i xs y (rw c.deref.ensures.value at at) in
    let within : i < length xs = rw c.deref.ensures.value at c.in-Ok.ensures.bound in
    ap (λ (z : ℕ × ℕ). Some z.1) c.index.ensures
    ∙ (place_found tid xs i y c.self.invariant within there ∙ ap (λ (s : Flushed). place_in tid s.places) c.self.view_is)

pub returns-in-Err : goal.returns-in-Err
returns-in-Err c =
    let tid = c.args.tid in
    let xs = c.self.inside.numbers.items in
    let at = c.in-Err.ensures.position (λ (z : ℕ × ℕ). z.0) (answers_always _ _ _ (λ f a r g called. search rules)) in
    found_nowhere tid c.in-Err.field-0 xs c.self.invariant (rw c.deref.ensures.value at at) ∙ ap (λ (s : Flushed). place_in tid s.places) c.self.view_is
