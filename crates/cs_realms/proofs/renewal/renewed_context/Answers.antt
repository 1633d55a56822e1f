use Rattle.std.proofs.Common.{sym, ◌∙◌}
use Rattle.cs_realms.proofs.Clear.{left_as_it_was}
use Rattle.cs_realms.proofs.renewal.renewed_context.Goals as goal

pub returns-then-leads_clear : goal.returns-then-leads_clear
returns-then-leads_clear c = left_as_it_was c.args.latest.now c.args.records.now c.args.last.now (sym c.leads_clear.ensures ∙ c.if-leads_clear.true)
