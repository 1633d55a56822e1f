use Rattle.cs_trim.proofs.Statuses.{removed_status}
use Rattle.cs_trim.proofs.numbers.Numbers.remove.Goals as goal

pub returns-clause-status : goal.returns-clause-status
returns-clause-status c = λ n.
    removed_status c.self.inside.statuses.items c.push.new.self.items c.args.self.now c.get.result c.args.snap.now n
    c.in_ok-push.ensures.items c.self.view_is c.get.ensures.value c.requires.standing
