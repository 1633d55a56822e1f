use Rattle.std.proofs.Common.{rules, ◌≡◌, ◌∷◌, ◌++◌, [], ◌<◌, sym, subst, length}
use Rattle.cs_client.specs.Contexts.{home_context}
use Rattle.cs_client.specs.Rows.{new_file}
use Rattle.cs_client.specs.Views.{AreMade, SameRows}
use Rattle.cs_client.proofs.Made.{AddsRow, added_made, added_tables}
use Rattle.cs_client.proofs.Puts.{same_tables}
use Rattle.cs_client.proofs.calls.add_file.Goals as goal

pub returns-in_err-insert-clause-tables : goal.returns-in_err-insert-clause-tables
returns-in_err-insert-clause-tables c =
    let same : SameRows c.args.files.now c.insert.new.self = λ f. search rules in
    same_tables c.args.files.now c.insert.new.self same

pub returns-clause-tables : goal.returns-clause-tables
returns-clause-tables c =
    let context = home_context c.args.tree.now c.args.realms.now c.args.home in
    let adds : AddsRow c.args.files.now c.insert.new.self c.args.file (new_file c.args.file c.args.home context) = λ f. search rules in
    added_tables c.args.files.now c.insert.new.self c.args.file c.args.home context c.requires.new adds

pub returns-clause-made : goal.returns-clause-made
returns-clause-made c =
    let context = home_context c.args.tree.now c.args.realms.now c.args.home in
    let adds : AddsRow c.args.files.now c.insert.new.self c.args.file (new_file c.args.file c.args.home context) = λ f. search rules in
    let room : length c.args.made.now.items < 4294967295 = search rules in
    let listed : c.push_reserved.new.self.items ≡ c.args.made.now.items ++ c.args.file ∷ [] = search rules in
    subst (λ ns. AreMade c.insert.new.self ns) (sym listed)
    (added_made c.args.files.now c.insert.new.self c.args.file (new_file c.args.file c.args.home context) c.args.made.now.items c.requires.new adds
    c.requires.made room)
