use Rattle.std.proofs.Common.{◌≡◌, ◌∙◌, ◌==◌, ◌<◌, Some, cond, length, nat_eq, [], ◌∷◌, ◌++◌, refl, sym, ap, subst, arith}
use Rattle.std.specs.Map.{lookup}
use Rattle.cs_laws.specs.Standing.{greatest_request, greatest_tid}
use Rattle.cs_records.specs.declared.index.Index.{Index}
use Rattle.cs_records.specs.Flushed.{Flushed}
use Rattle.cs_records.specs.Flushes.{flushed_in}
use Rattle.cs_records.specs.Indexed.{IsIndexed}
use Rattle.cs_records.specs.Log.{IsNext, IsNextRemoval, IsNextSnap}
use Rattle.cs_records.specs.Places.{greatest_in}
use Rattle.cs_records.proofs.FlushPlaces.{greatest_places}
use Rattle.cs_records.proofs.IndexedNow.{kept_flush, kept_removal, kept_request, kept_snap}
use Rattle.cs_records.proofs.Lists.{on_ok}
use Rattle.cs_records.proofs.Logs.{log_few}
use Rattle.cs_records.proofs.index.Index.add.Goals as goal

pub answer-requires : goal.answer-requires
answer-requires c = let few = log_few c.args.records.now c.requires.indexed.log in omega (arith, few, c.requires.indexed.number)

pub add-requires : goal.add-requires
add-requires c =
    let rs = c.args.records.now in
    let f = c.in-Flush.file in
    let next : greatest_tid f rs < c.in-Flush.tid = subst (λ b. IsNext rs b) c.in-Flush.is c.requires.next in
    let most : greatest_in (flushed_in c.args.self.now.flushes f).places ≡ greatest_tid f rs =
    ap (λ (s : Flushed). greatest_in s.places) (c.requires.indexed.flushes f) ∙ greatest_places f 0 rs in
    omega (arith, next, most)

pub returns-in_ok-answer-in-Request-clause-ok : goal.returns-in_ok-answer-in-Request-clause-ok
returns-in_ok-answer-in-Request-clause-ok c =
    let rs = c.args.records.now in
    let r = c.in-Request in
    let t = c.args.self.now in
    let next : greatest_request rs < r.tid = subst (λ b. IsNext rs b) r.is c.requires.next in
    subst (λ b. IsIndexed (rs ++ record { body = b } ∷ []) (record t { requests = c.enter.new.self; sinces = c.answer.new.self })) (sym r.is)
    (kept_request rs r.tid r.op r.answer t c.enter.new.self c.answer.new.self c.requires.indexed next c.enter.ensures.last
    (λ k. c.enter.ensures.answered k ∙ ap (λ o. cond (r.tid == k) (Some (record { place = length rs; answer = r.answer })) o) (c.reserve.ensures.answered k))
    c.answer.ensures.greatest c.in_ok-answer-in-Request.ensures.ok)

pub returns-in-Flush-clause-ok : goal.returns-in-Flush-clause-ok
returns-in-Flush-clause-ok c =
    let rs = c.args.records.now in
    let next : greatest_tid c.in-Flush.file rs < c.in-Flush.tid = subst (λ b. IsNext rs b) c.in-Flush.is c.requires.next in
    on_ok c.add.result
    (λ added. subst (λ b. IsIndexed (rs ++ record { body = b } ∷ []) (record c.args.self.now { flushes = c.add.new.self })) (sym c.in-Flush.is)
    (kept_flush rs c.in-Flush.snap c.in-Flush.file c.in-Flush.tid c.in-Flush.follows c.in-Flush.meta c.args.self.now c.add.new.self
    c.requires.indexed next added))
    c.add.ensures.ok

pub returns-in_ok-add-in-Snap-clause-ok : goal.returns-in_ok-add-in-Snap-clause-ok
returns-in_ok-add-in-Snap-clause-ok c =
    let rs = c.args.records.now in
    let n = c.in-Snap.number in
    let d = c.in-Snap.dir in
    let new : Index = record c.args.self.now { sinces = c.draw.new.self; dirs = c.enter_dir.new.dirs; names = c.add-in-Snap.new.self } in
    let next : IsNextSnap rs n d c.in-Snap.name = subst (λ b. IsNext rs b) c.in-Snap.is c.requires.next in
    subst (λ b. IsIndexed (rs ++ record { body = b } ∷ []) new) (sym c.in-Snap.is)
    (kept_snap rs n d c.in-Snap.name c.args.self.now new c.requires.indexed next c.draw.ensures.greatest c.draw.ensures.made
    (λ s. c.enter_dir.ensures s ∙ ap (λ es. cond (n == s) (Some d) (lookup (nat_eq s) es)) c.in_ok-reserve-in-Snap.ensures.entries)
    c.in_ok-add-in-Snap.ensures.ok c.in_ok-add-in-Snap.ensures.dirs refl refl refl)

pub returns-in_ok-insert-in-Removal-clause-ok : goal.returns-in_ok-insert-in-Removal-clause-ok
returns-in_ok-insert-in-Removal-clause-ok c =
    let rs = c.args.records.now in
    let new : Index = record c.args.self.now { sinces = c.draw-in-Removal.new.self; removed = c.insert.new.self } in
    let next : IsNextRemoval rs c.in-Removal.snap c.in-Removal.number = subst (λ b. IsNext rs b) c.in-Removal.is c.requires.next in
    subst (λ b. IsIndexed (rs ++ record { body = b } ∷ []) new) (sym c.in-Removal.is)
    (kept_removal rs c.in-Removal.snap c.in-Removal.number c.args.self.now new c.requires.indexed next c.draw-in-Removal.ensures.greatest
    c.draw-in-Removal.ensures.made c.in_ok-insert-in-Removal.ensures.updates.0 refl refl refl refl)
