use Rattle.std.proofs.Common.{◌∙◌, ◌||◌, ap, sym}
use Rattle.cs_names.specs.Table.{is_among}
use Rattle.cs_names.proofs.Setups.{in-use-table}
use Rattle.cs_names.proofs.names.Names.is_in_use.Goals as goal

pub returns-then-contains : goal.returns-then-contains
returns-then-contains c =
    c.if-contains.true
    ∙ sym (in-use-table c.self.invariant c.args.self.now c.self.view_is c.args.ino
    ∙ ap (λ b. b || is_among c.args.ino c.self.inside.files.keys) (sym c.contains.ensures ∙ c.if-contains.true))

pub returns-else-contains : goal.returns-else-contains
returns-else-contains c =
    c.contains-else-contains.ensures
    ∙ sym (in-use-table c.self.invariant c.args.self.now c.self.view_is c.args.ino
    ∙ ap (λ b. b || is_among c.args.ino c.self.inside.files.keys) (sym c.contains.ensures ∙ c.if-contains.false))
