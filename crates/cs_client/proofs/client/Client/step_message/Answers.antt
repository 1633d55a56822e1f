use Rattle.std.proofs.Common.{sym, subst}
use Rattle.cs_laws.specs.declared.messages.Message.{Message}
use Rattle.cs_client.specs.Messages.{Delivered}
use Rattle.cs_client.proofs.client.Client.step_message.Goals as goal

pub returns-in_ok-deliver_unsafe-in-Unsafe-clause-after : goal.returns-in_ok-deliver_unsafe-in-Unsafe-clause-after
returns-in_ok-deliver_unsafe-in-Unsafe-clause-after c =
    subst (λ (m : Message). Delivered c.args.self.now c.deliver_unsafe.new.self m) (sym c.in-Unsafe.is)
    (c.in_ok-deliver_unsafe-in-Unsafe.ensures.after c.in-Unsafe.ttl)
