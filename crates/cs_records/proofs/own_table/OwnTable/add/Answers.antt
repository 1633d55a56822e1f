use Rattle.std.proofs.Common.{◌==◌, ◌∷◌, cond, Some, ◌∙◌, ap, rules}
use Rattle.std.specs.BTreeMap.{get}
use Rattle.std.specs.Option.{unwrap_or}
use Rattle.std.specs.Ordering.{nat_cmp}
use Rattle.cs_records.proofs.Lists.{any_err}
use Rattle.cs_records.proofs.Tables.{put, put_same}
use Rattle.cs_records.specs.OwnTable.{no_own}
use Rattle.cs_records.proofs.own_table.OwnTable.add.Goals as goal

pub returns-in_err-add-in-Some-clause-err : goal.returns-in_err-add-in-Some-clause-err
returns-in_err-add-in-Some-clause-err c =
    any_err c.from_residual.result
    (put_same c.args.self.now.owns
    (c.get_mut.follows.lender c.add.new.self) c.args.dir c.in-Some.own.now c.add.new.self c.in-Some.ensures.value c.in_err-add-in-Some.ensures.err
    ((c.get_mut.follows.holds c.add.new.self).3 (search rules)))

pub returns-in_ok-insert-in-None-clause-ok : goal.returns-in_ok-insert-in-None-clause-ok
returns-in_ok-insert-in-None-clause-ok c = λ d.
    let first =
    c.in_ok-own-in-None.ensures ∙ ap (λ o. record { seq = c.args.number; snaps = c.args.number ∷ (unwrap_or o no_own).snaps }) c.in-None.ensures.value in
    put c.get_mut.follows.lender-at-none c.insert.new.self c.args.dir c.in_ok-own-in-None.own c.in_ok-insert-in-None.ensures.updates d
    ∙ (λ i. cond (c.args.dir == d) (Some (first i)) (get nat_cmp (c.get_mut.follows.holds-at-none i) d))
