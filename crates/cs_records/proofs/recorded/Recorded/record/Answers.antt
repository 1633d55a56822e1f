use Rattle.std.proofs.Common.{◌≡◌, ◌∙◌, sym, ap, subst, ℕ, ◌<◌, ◌≤◌, get_or, set, length, rules}
use Rattle.std.proofs.lemmas.List.Sorted.{answers_always}
use Rattle.cs_ids.specs.declared.objects.FileMeta.{FileMeta}
use Rattle.cs_records.specs.Recorded.{AreRising, with_recorded}
use Rattle.cs_records.proofs.RecordedPlaces.{rising_with, with_set}
use Rattle.cs_records.proofs.RecordedAt.{found_there, inserted_there}
use Rattle.cs_records.proofs.recorded.Recorded.record.Goals as goal

-- the number stands there already
pub returns-in-Ok-clause-ok : goal.returns-in-Ok-clause-ok
returns-in-Ok-clause-ok c =
    let x : ℕ × FileMeta = (c.args.follows, c.args.meta) in
    let y : ℕ × FileMeta = c.index_mut.result.now in
    let xs = c.self.inside.flushes.items in
    let k = c.in-Ok.place in
    let at = c.in-Ok.ensures.position (λ (z : ℕ × FileMeta). z.0) (answers_always _ _ _ (λ f a r g called. search rules)) in
    let there : (get_or xs k y).0 ≡ c.args.follows = found_there c.args.follows k xs y (rw c.deref.ensures.value at at) in
    let within : k < length xs = rw c.deref.ensures.value at c.in-Ok.ensures.bound in
    ap (λ n. set xs k (n, c.args.meta)) (ap (λ (z : ℕ × FileMeta). z.0) c.index_mut.ensures.value ∙ there)
    ∙ (with_set x xs k y c.self.invariant within there ∙ ap (λ zs. with_recorded x zs) c.self.view_is)

-- or it goes to its place
pub returns-in_ok-insert-in-Err-clause-ok : goal.returns-in_ok-insert-in-Err-clause-ok
returns-in_ok-insert-in-Err-clause-ok c =
    let x : ℕ × FileMeta = (c.args.follows, c.args.meta) in
    let xs = c.self.inside.flushes.items in
    let parted = c.in-Err.ensures.position (λ (z : ℕ × FileMeta). z.0) (answers_always _ _ _ (λ f a r g called. search rules)) in
    let within : c.in-Err.place ≤ length xs = rw c.deref.ensures.value at c.in-Err.ensures.bound in
    c.in_ok-insert-in-Err.ensures.items
    ∙ (inserted_there x c.in-Err.place xs c.self.invariant within (rw c.deref.ensures.value at parted) ∙ ap (λ zs. with_recorded x zs) c.self.view_is)

pub invariant_of-self-in-Err : goal.invariant_of-self-in-Err
invariant_of-self-in-Err c =
    let x : ℕ × FileMeta = (c.args.follows, c.args.meta) in
    let xs = c.self.inside.flushes.items in
    let parted = c.in-Err.ensures.position (λ (z : ℕ × FileMeta). z.0) (answers_always _ _ _ (λ f a r g called. search rules)) in
    let within : c.in-Err.place ≤ length xs = rw c.deref.ensures.value at c.in-Err.ensures.bound in
    subst AreRising
    (sym (c.in_ok-insert-in-Err.ensures.items ∙ inserted_there x c.in-Err.place xs c.self.invariant within (rw c.deref.ensures.value at parted)))
    (rising_with x xs c.self.invariant)
