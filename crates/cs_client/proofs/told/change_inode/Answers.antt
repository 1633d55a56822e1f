use Rattle.cs_client.proofs.Likes.{like_with_context}
use Rattle.cs_client.proofs.told.change_inode.Goals as goal

pub returns-clause-like : goal.returns-clause-like
returns-clause-like c = like_with_context c.in_ok-copy.field-0 c.args.inode.now c.new_context.new.self c.in_ok-new_context.ensures.after
