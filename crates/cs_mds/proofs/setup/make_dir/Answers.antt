use Rattle.cs_mds.proofs.Whole.{whole_dir}
use Rattle.cs_mds.proofs.setup.make_dir.Goals as goal

pub returns-clause-whole : goal.returns-clause-whole
returns-clause-whole c =
    whole_dir c.args.names.now c.setup.new.self c.args.dir c.args.parent c.requires.greatest c.in_ok-add.ensures.members
    c.in_ok-setup.ensures.names
