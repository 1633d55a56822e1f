use Rattle.cs_realms.proofs.context.+context_within.Given as goal

abbrev pub decreases-context_within : goal.decreases-context_within
decreases-context_within l = l.most
