use Rattle.std.proofs.Common.{rules}
use Rattle.cs_mds.proofs.Rows.{put_in}
use Rattle.cs_mds.proofs.Whole.{parent_of}
use Rattle.cs_mds.proofs.requests.enter_made.Goals as goal

pub returns-in_ok-insert-in-Create-clause-inside : goal.returns-in_ok-insert-in-Create-clause-inside
returns-in_ok-insert-in-Create-clause-inside c =
    put_in c.args.tree.now c.args.homes.now c.insert.new.self c.in-Made.ino c.in-Create.dir
    (parent_of c.args.tree.now c.args.homes.now c.args.op.now c.args.answer.now c.in-Create.is c.in-Made.is c.requires) (λ g. search rules)
