use Rattle.cs_capsnap.proofs.Alone.{sent_alone}
use Rattle.cs_capsnap.proofs.laws.sent_changes_the_first_unsent_alone.Goals as goal

pub returns : goal.returns
returns c = sent_alone
