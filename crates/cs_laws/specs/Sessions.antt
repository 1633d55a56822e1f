-- The state of the server's session.
use Rattle.std.specs.Prelude.{ℕ, Bool, true, false, List, [], ◌∷◌}
use Rattle.cs_laws.specs.declared.events.Event.{Event}
use Rattle.cs_laws.specs.declared.answers.Answer.{Answer}
use Rattle.cs_laws.specs.declared.answers.Entry.{Entry}

pub data ServerState : Type 0 where
  active : ServerState
  -- so many of the messages that are sent again are still to come
  replaying : ℕ → ServerState
  broken : ServerState

-- nothing is lost yet, so that no entry changes it
abbrev pub server_state_then : Event → Answer → ServerState → ServerState
server_state_then _ _ s = s

abbrev pub server_state : List Entry → ServerState
server_state [] = active
server_state (x ∷ h) = server_state_then x.event x.answer (server_state h)

abbrev pub is_active : ServerState → Bool
is_active active = true
is_active _ = false

abbrev pub is_broken : ServerState → Bool
is_broken broken = true
is_broken _ = false
