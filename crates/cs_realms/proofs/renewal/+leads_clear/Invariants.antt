use Rattle.cs_realms.proofs.renewal.+leads_clear.Given as goal

abbrev pub decreases-leads_clear : goal.decreases-leads_clear
decreases-leads_clear l = l.most
