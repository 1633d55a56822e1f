use Rattle.std.proofs.Common.{◌∙◌}
use Rattle.cs_trim.proofs.Trimming.{dropped_given_up, each_serves, follows_trimmed}
use Rattle.cs_trim.proofs.store.TrimStore.trim.Goals as goal

pub returns-clause-follows : goal.returns-clause-follows
returns-clause-follows c = follows_trimmed c.args.self.now c.trim_objects.new.self c.trim_objects.ensures.trimmed

pub returns-clause-count : goal.returns-clause-count
returns-clause-count c = λ h s. c.trim_objects.ensures.count ∙ dropped_given_up 64 h c.args.self.now s

pub returns-clause-serving : goal.returns-clause-serving
returns-clause-serving c = each_serves c.args.self.now c.trim_objects.new.self c.trim_objects.ensures.trimmed
