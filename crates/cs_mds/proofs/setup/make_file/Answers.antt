use Rattle.std.proofs.Common.{rules}
use Rattle.cs_mds.proofs.Rows.{put_in}
use Rattle.cs_mds.proofs.Whole.{whole_file}
use Rattle.cs_mds.proofs.setup.make_file.Goals as goal

pub returns-in_err-setup-clause-inside : goal.returns-in_err-setup-clause-inside
returns-in_err-setup-clause-inside c =
    put_in c.args.tree.now c.args.homes.now c.insert.new.self c.args.file c.args.parent (search rules) (λ g. search rules)

pub returns-clause-inside : goal.returns-clause-inside
returns-clause-inside c =
    put_in c.args.tree.now c.args.homes.now c.insert.new.self c.args.file c.args.parent (search rules) (λ g. search rules)

pub returns-clause-whole : goal.returns-clause-whole
returns-clause-whole c =
    whole_file c.args.names.now c.setup.new.self c.args.file c.args.parent c.requires.greatest (λ f. search rules)
    c.in_ok-setup.ensures.names
