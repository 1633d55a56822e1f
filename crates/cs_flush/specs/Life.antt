-- The life of a file's flushes: the steps that were made, the newest first.
use Rattle.std.specs.Prelude.{ℕ, ◌<◌, List, [], ◌∷◌, ◌++◌, max, if◌then◌else◌}
use Rattle.cs_bits.specs.declared.Caps.{Caps}
use Rattle.cs_bits.specs.Bits.{no_caps, union}
use Rattle.cs_flush.specs.declared.sent.Sent.{Sent}
use Rattle.cs_flush.specs.Flushes.{FileFlushes, after_ack, greatest_tid, has_tid, started}

-- metadata is marked dirty, a flush is sent, the acknowledgement of a number comes
pub data Step : Type 0 where
  marked : (bits : Caps) → Step
  sent : (x : Sent) → Step
  acked : (tid : ℕ) → Step

-- what the steps leave
abbrev pub after : List Step → FileFlushes
after [] = record { dirty = no_caps; unacked = [] }
after (marked bits ∷ h) = record (after h) { dirty = union (after h).dirty bits }
after (sent x ∷ h) = started x.tid x.follows x.meta (after h)
after (acked tid ∷ h) = record (after h) { unacked = after_ack tid (after h).unacked }

-- all flushes that were sent, in order
abbrev pub all_sent : List Step → List Sent
all_sent [] = []
all_sent (marked bits ∷ h) = all_sent h
all_sent (sent x ∷ h) = all_sent h ++ x ∷ []
all_sent (acked tid ∷ h) = all_sent h

-- the greatest number of a flush that was sent and then acknowledged, or 0 where none was
abbrev pub greatest_acked : List Step → ℕ
greatest_acked [] = 0
greatest_acked (marked bits ∷ h) = greatest_acked h
greatest_acked (sent x ∷ h) = greatest_acked h
greatest_acked (acked tid ∷ h) = if has_tid tid (all_sent h) then max (greatest_acked h) tid else greatest_acked h

-- each flush has a greater number than all that were sent before it
abbrev pub NumbersRise : List Step → Type 0
NumbersRise [] = Unit {0}
NumbersRise (marked bits ∷ h) = NumbersRise h
NumbersRise (sent x ∷ h) = (greatest_tid (all_sent h) < x.tid) × NumbersRise h
NumbersRise (acked tid ∷ h) = NumbersRise h
