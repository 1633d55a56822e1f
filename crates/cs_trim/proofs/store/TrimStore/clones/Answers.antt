use Rattle.std.proofs.Common.{◌∙◌}
use Rattle.cs_trim.proofs.Reading.{clones_kept}
use Rattle.cs_trim.proofs.store.TrimStore.clones.Goals as goal

pub returns : goal.returns
returns c = λ h s. c.count.ensures ∙ clones_kept c.args.b h c.args.self.now s
