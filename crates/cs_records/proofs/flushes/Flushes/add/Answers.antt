use Rattle.std.proofs.Common.{◌==◌, ◌∙◌, cond, sym, ap, rules}
use Rattle.std.specs.BTreeMap.{get}
use Rattle.std.specs.Option.{unwrap_or}
use Rattle.std.specs.Ordering.{nat_cmp}
use Rattle.cs_records.specs.Flushed.{Flushed, none_flushed, with_flushed}
use Rattle.cs_records.proofs.Lists.{any_err}
use Rattle.cs_records.proofs.Tables.{put_flushed, put_same}
use Rattle.cs_records.proofs.flushes.Flushes.add.Goals as goal

pub returns-in_err-add-in-Some-clause-err : goal.returns-in_err-add-in-Some-clause-err
returns-in_err-add-in-Some-clause-err c =
    any_err c.from_residual.result
    (λ f. ap (λ o. unwrap_or o none_flushed)
    (put_same c.args.self.now.files (c.get_mut.follows.lender c.add.new.self) c.args.file c.in-Some.flushes.now c.add.new.self
    c.in-Some.ensures.value c.in_err-add-in-Some.ensures.err ((c.get_mut.follows.holds c.add.new.self).3 (search rules)) f))

pub returns-in_ok-insert-in-None-clause-ok : goal.returns-in_ok-insert-in-None-clause-ok
returns-in_ok-insert-in-None-clause-ok c =
    let old = c.get_mut.follows.lender-at-none in
    let same = c.get_mut.follows.holds-at-none in
    let g = λ (s : Flushed). with_flushed c.args.tid c.args.place c.args.follows c.args.meta s in
    let none = ap (λ o. unwrap_or o none_flushed) (c.in-None.ensures.value ∙ ap (λ m. get nat_cmp m c.args.file) (sym same)) in
    λ f.
    put_flushed old c.insert.new.self c.args.file c.add-in-None.new.self g c.in_ok-insert-in-None.ensures.updates
    (c.in_ok-add-in-None.ensures.ok ∙ ap g (c.new-flushes.ensures ∙ none)) f
    ∙ (λ i. cond (c.args.file == f) (g (unwrap_or (get nat_cmp (same i) f) none_flushed)) (unwrap_or (get nat_cmp (same i) f) none_flushed))
