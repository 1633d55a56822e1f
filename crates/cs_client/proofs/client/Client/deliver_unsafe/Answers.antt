use Rattle.std.proofs.Common.{sym, subst}
use Rattle.cs_laws.specs.Made.{made_by}
use Rattle.cs_client.specs.Replies.{AreNew}
use Rattle.cs_client.specs.Requests.{unanswered}
use Rattle.cs_client.specs.Views.{ClientView}
use Rattle.cs_client.proofs.client.Client.deliver_unsafe.Goals as goal

pub deliver_unsafe-requires-clause-new : goal.deliver_unsafe-requires-clause-new
deliver_unsafe-requires-clause-new c =
    subst (λ (v : ClientView). AreNew (made_by (unanswered c.args.tid v.requests.requests) c.args.answer.now) v.tree v.files) (sym c.self.view_is) c.requires
