-- The life of an operation that was sent: the steps that it took, the newest first.
use Rattle.std.specs.Prelude.{ℕ, ◌+◌, ◌<◌, Bool, List, [], ◌∷◌, if◌then◌else◌}
use Rattle.cs_states.specs.declared.delivery.Delivery.{Delivery}
use Rattle.cs_states.specs.Delivery.{sent_once, after_arrival, after_reply, after_loss}

-- it is sent again, a copy comes to the store, a reply comes to the client, a reply or a copy is lost
pub data Step : Type 0 where
  resent : Step
  arrived : Step
  replied : Step
  lost : (reply : Bool) → Step

-- what the steps leave
abbrev pub after : List Step → Delivery
after [] = sent_once
after (resent ∷ h) = record (after h) { copies = (after h).copies + 1 }
after (arrived ∷ h) = after_arrival (after h)
after (replied ∷ h) = after_reply (after h)
after (lost reply ∷ h) = after_loss reply (after h)

-- only what is on the way comes or is lost
abbrev pub IsLife : List Step → Type 0
IsLife [] = Unit {0}
IsLife (resent ∷ h) = IsLife h
IsLife (arrived ∷ h) = (0 < (after h).copies) × IsLife h
IsLife (replied ∷ h) = (0 < (after h).replies) × IsLife h
IsLife (lost reply ∷ h) = (0 < (if reply then (after h).replies else (after h).copies)) × IsLife h

-- how often it was sent, and how often each step came
abbrev pub sends : List Step → ℕ
sends [] = 1
sends (resent ∷ h) = sends h + 1
sends (arrived ∷ h) = sends h
sends (replied ∷ h) = sends h
sends (lost reply ∷ h) = sends h

abbrev pub arrivals : List Step → ℕ
arrivals [] = 0
arrivals (resent ∷ h) = arrivals h
arrivals (arrived ∷ h) = arrivals h + 1
arrivals (replied ∷ h) = arrivals h
arrivals (lost reply ∷ h) = arrivals h

abbrev pub replies : List Step → ℕ
replies [] = 0
replies (resent ∷ h) = replies h
replies (arrived ∷ h) = replies h
replies (replied ∷ h) = replies h + 1
replies (lost reply ∷ h) = replies h

abbrev pub lost_copies : List Step → ℕ
lost_copies [] = 0
lost_copies (resent ∷ h) = lost_copies h
lost_copies (arrived ∷ h) = lost_copies h
lost_copies (replied ∷ h) = lost_copies h
lost_copies (lost reply ∷ h) = if reply then lost_copies h else lost_copies h + 1

abbrev pub lost_replies : List Step → ℕ
lost_replies [] = 0
lost_replies (resent ∷ h) = lost_replies h
lost_replies (arrived ∷ h) = lost_replies h
lost_replies (replied ∷ h) = lost_replies h
lost_replies (lost reply ∷ h) = if reply then lost_replies h + 1 else lost_replies h
