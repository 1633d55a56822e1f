use Rattle.std.proofs.Common.{◌==◌, ◌&&◌, ◌||◌, ◌∙◌, Some, is_some, cond, sym, ap, rules}
use Rattle.std.specs.BTreeMap.{get}
use Rattle.std.specs.Option.{option_and_then}
use Rattle.std.specs.Ordering.{nat_cmp}
use Rattle.std.specs.Str.{bytes_eq}
use Rattle.cs_records.specs.Names.{last_in}
use Rattle.cs_records.proofs.Lists.{any_err}
use Rattle.cs_records.proofs.Tables.{named, named_same, stands_same, stands_with}
use Rattle.cs_records.proofs.names.Names.add.Goals as goal

pub returns-in_err-put-in-Some-clause-err : goal.returns-in_err-put-in-Some-clause-err
returns-in_err-put-in-Some-clause-err c =
    any_err c.from_residual-in_err-put-in-Some.result
    (named_same c.args.self.now.tables (c.get_mut.follows.lender c.put.new.self) c.args.dir c.in-Some.table.now c.put.new.self c.in-Some.ensures.value
    ((c.get_mut.follows.holds c.put.new.self).3 (search rules)) c.in_err-put-in-Some.ensures.err)

pub returns-in_err-put-in-Some-clause-kept_dirs : goal.returns-in_err-put-in-Some-clause-kept_dirs
returns-in_err-put-in-Some-clause-kept_dirs c =
    any_err c.from_residual-in_err-put-in-Some.result
    (stands_same c.args.self.now.tables (c.get_mut.follows.lender c.put.new.self) c.args.dir c.in-Some.table.now c.put.new.self c.in-Some.ensures.value
    ((c.get_mut.follows.holds c.put.new.self).3 (search rules)))

pub returns-in_ok-insert-in-None-clause-dirs : goal.returns-in_ok-insert-in-None-clause-dirs
returns-in_ok-insert-in-None-clause-dirs c = λ d.
    stands_with c.get_mut.follows.lender-at-none c.insert.new.self c.args.dir c.put-in-None.new.self c.in_ok-insert-in-None.ensures.updates d
    ∙ (λ i. is_some (get nat_cmp (c.get_mut.follows.holds-at-none i) d) || (c.args.dir == d))

pub returns-in_ok-insert-in-None-clause-ok : goal.returns-in_ok-insert-in-None-clause-ok
returns-in_ok-insert-in-None-clause-ok c =
    let old = c.get_mut.follows.lender-at-none in
    let same = c.get_mut.follows.holds-at-none in
    let bytes = c.in_ok-key.ensures.items ∙ c.as_slice.ensures.bytes in
    let none = c.in-None.ensures.value ∙ ap (λ m. get nat_cmp m c.args.dir) (sym same) in
    λ d other.
    named old c.insert.new.self c.args.dir c.put-in-None.new.self c.in_ok-key.key.items c.args.number c.in_ok-insert-in-None.ensures.updates
    (λ name. c.in_ok-put-in-None.ensures.ok name
    ∙ ap (λ o. cond (bytes_eq name c.in_ok-key.key.items) (Some c.args.number) o) (c.new-table.ensures name
    ∙ ap (λ o. option_and_then (λ t. last_in t name) o) none)) d other
    ∙ (λ i. cond ((c.args.dir == d) && bytes_eq other (bytes i)) (Some c.args.number) (option_and_then (λ t. last_in t other) (get nat_cmp (same i) d)))
