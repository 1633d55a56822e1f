-- What an entry does to the two ends of a file's capabilities.
use Rattle.std.specs.Prelude.{ℕ, ◌==◌, if◌then◌else◌}
use Rattle.cs_parts.specs.declared.capabilities.ClientCaps.{ClientCaps}
use Rattle.cs_parts.specs.declared.capabilities.ServerCaps.{ServerCaps}
use Rattle.cs_parts.specs.Capabilities.{granted, revoked, delivered, acknowledged}
use Rattle.cs_laws.specs.declared.events.Event.{Event}
use Rattle.cs_laws.specs.declared.events.Event.TheVariants as events
use Rattle.cs_laws.specs.declared.answers.Answer.{Answer}
use Rattle.cs_laws.specs.declared.answers.Answer.TheVariants as answers

abbrev pub server_then : Event → Answer → ℕ → ServerCaps → ServerCaps
server_then (events.Grant g bits end) (answers.SentCap seq held) f s = if g == f then granted s bits end else s
server_then (events.Revoke g bits) (answers.SentCap seq held) f s = if g == f then revoked s bits else s
server_then events.ToMds (answers.CapAck g seq held) f s = if g == f then record s { held = held } else s
server_then _ _ f s = s

abbrev pub client_then : Event → Answer → ℕ → ClientCaps → ClientCaps
client_then events.ToClient (answers.Cap g seq bits end) f c = if g == f then delivered c bits seq end else c
client_then (events.Check g) (answers.Ack seq bits) f c = if g == f then acknowledged c bits seq else c
client_then _ _ f c = c
