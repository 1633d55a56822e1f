use Rattle.std.proofs.Common.{rules}
use Rattle.cs_mds.proofs.Rows.{same_caps}
use Rattle.cs_mds.proofs.caps.enter.Goals as goal

pub returns-in_ok-insert-clause-same : goal.returns-in_ok-insert-clause-same
returns-in_ok-insert-clause-same c = same_caps c.args.caps.now c.insert.new.self c.args.file (search rules) (λ g. search rules)
