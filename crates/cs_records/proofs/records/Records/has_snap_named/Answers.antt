use Rattle.std.proofs.Common.{◌≡◌, ◌∙◌, false, not, sym, ap}
use Rattle.std.specs.Option.{option_map_or}
use Rattle.std.proofs.lemmas.List.{take-append-drop}
use Rattle.cs_laws.specs.Standing.{has_snap_named, is_removed}
use Rattle.cs_records.specs.Records.{all}
use Rattle.cs_records.proofs.Named.{name_taken}
use Rattle.cs_records.proofs.records.Records.has_snap_named.Goals as goal

pub returns-in-Some : goal.returns-in-Some
returns-in-Some c =
    let rs = c.self.inside.records.items in
    let name = c.args.name.now in
    let whole : all c.args.self.now ≡ rs = ap all (sym c.self.view_is) ∙ take-append-drop c.self.inside.durable rs in
    let last = sym (c.self.invariant.index.names c.args.dir name) ∙ (sym c.last.ensures ∙ c.in-Some.is) in
    ap not (c.contains.ensures ∙ c.self.invariant.index.removed c.in-Some.snap)
    ∙ (sym (name_taken rs c.self.invariant.index.log c.args.dir name ∙ ap (λ o. option_map_or (λ m. not (is_removed m rs)) o false) last)
    ∙ ap (λ xs. has_snap_named c.args.dir name xs) (sym whole))

pub returns-in-None : goal.returns-in-None
returns-in-None c =
    let rs = c.self.inside.records.items in
    let name = c.args.name.now in
    let whole : all c.args.self.now ≡ rs = ap all (sym c.self.view_is) ∙ take-append-drop c.self.inside.durable rs in
    let last = sym (c.self.invariant.index.names c.args.dir name) ∙ (sym c.last.ensures ∙ c.in-None.is) in
    sym (name_taken rs c.self.invariant.index.log c.args.dir name ∙ ap (λ o. option_map_or (λ m. not (is_removed m rs)) o false) last)
    ∙ ap (λ xs. has_snap_named c.args.dir name xs) (sym whole)
