-- What an entry does to the messages that were sent and not yet delivered. A list of them has the oldest first.
use Rattle.std.specs.Prelude.{ℕ, List, [], ◌∷◌, ◌++◌, drop, Option, Some, None, if◌then◌else◌}
use Rattle.cs_parts.specs.declared.capabilities.ServerCaps.{ServerCaps}
use Rattle.cs_parts.specs.Capabilities.{granted, revoked}
use Rattle.cs_laws.specs.declared.events.Event.{Event}
use Rattle.cs_laws.specs.declared.events.Event.TheVariants as events
use Rattle.cs_laws.specs.declared.answers.Answer.{Answer}
use Rattle.cs_laws.specs.declared.answers.Answer.TheVariants as answers
use Rattle.cs_laws.specs.declared.messages.Message.{Message}
use Rattle.cs_laws.specs.declared.messages.Message.TheVariants as messages
use Rattle.cs_laws.specs.declared.records.Record.{Record}
use Rattle.cs_laws.specs.Flushes.{Flush, flush_message}
use Rattle.cs_laws.specs.declared.requests.OpAnswer.{OpAnswer}
use Rattle.cs_laws.specs.Leases.{ino_in, lease_time}
use Rattle.cs_laws.specs.Standing.{has_flush, has_request}

-- what the client may have from now on
abbrev pub cap_message : ℕ → ServerCaps → Message
cap_message f s = messages.Cap f s.seq s.given s.max

-- a flush that came again is acknowledged at once where its record is durable
abbrev pub acked_again : ℕ → ℕ → List Record → List Message
acked_again f tid ds = if has_flush f tid ds then messages.FlushAck f tid ∷ [] else []

-- the first answer to a request gives a lease on the entry that it tells of, for so long
abbrev pub lease_given : Option ℕ → ℕ
lease_given None = 0
lease_given (Some i) = lease_time

abbrev pub unsafe_message : ℕ → OpAnswer → Message
unsafe_message tid a = messages.Unsafe tid a (lease_given (ino_in a))

-- A request that came again is answered again, without a lease, and at once told to be durable where its record is.
abbrev pub answered_again : ℕ → OpAnswer → List Record → List Message
answered_again tid a ds = messages.Unsafe tid a 0 ∷ (if has_request tid ds then messages.Safe tid ∷ [] else [])

-- server f: the server's end of f before the entry; ds: the durable records; news: what the client is told where all records
-- become durable
abbrev pub to_client_then : Event → Answer → (ℕ → ServerCaps) → List Record → List Message → List Message → List Message
to_client_then (events.Grant f bits end) (answers.SentCap seq held) server ds news q = q ++ cap_message f (granted (server f) bits end) ∷ []
to_client_then (events.Revoke f bits) (answers.SentCap seq held) server ds news q = q ++ cap_message f (revoked (server f) bits) ∷ []
to_client_then events.Commit (answers.Commit count) server ds news q = q ++ news
to_client_then events.ToMds (answers.FlushDup f tid) server ds news q = q ++ acked_again f tid ds
to_client_then events.ToMds (answers.Req tid a) server ds news q = q ++ unsafe_message tid a ∷ []
to_client_then events.ToMds (answers.ReqDup tid a) server ds news q = q ++ answered_again tid a ds
to_client_then (events.Unlease d name) answers.SentUnlease server ds news q = q ++ messages.Unlease d name ∷ []
to_client_then events.ToClient (answers.Cap g seq bits end) server ds news q = drop 1 q
to_client_then events.ToClient (answers.FlushAck f tid) server ds news q = drop 1 q
to_client_then events.ToClient (answers.SnapTold number realm made) server ds news q = drop 1 q
to_client_then events.ToClient (answers.Unsafe tid a) server ds news q = drop 1 q
to_client_then events.ToClient (answers.Safe tid) server ds news q = drop 1 q
to_client_then events.ToClient (answers.Unlease d name) server ds news q = drop 1 q
to_client_then _ _ server ds news q = q

-- present f tid: the flush of f's present metadata under this number; snap f tid follows: that of its first unsent cap snap
abbrev pub to_server_then : Event → Answer → (ℕ → ℕ → Flush) → (ℕ → ℕ → ℕ → Flush) → List Message → List Message
to_server_then (events.Check f) (answers.Ack seq bits) present snap q = q ++ messages.CapAck f seq bits ∷ []
to_server_then (events.Flush f) (answers.Flush tid) present snap q = q ++ flush_message (present f tid) ∷ []
to_server_then (events.FlushSnaps f) (answers.FlushSnap tid follows) present snap q = q ++ flush_message (snap f tid follows) ∷ []
to_server_then (events.Req caller op) (answers.Sent tid) present snap q = q ++ messages.Req tid None op ∷ []
to_server_then events.ToMds (answers.CapAck f seq held) present snap q = drop 1 q
to_server_then events.ToMds (answers.Flushed f tid) present snap q = drop 1 q
to_server_then events.ToMds (answers.FlushDup f tid) present snap q = drop 1 q
to_server_then events.ToMds (answers.Req tid a) present snap q = drop 1 q
to_server_then events.ToMds (answers.ReqDup tid a) present snap q = drop 1 q
to_server_then _ _ present snap q = q
