-- A message is delivered. One on capabilities, or an acknowledgement of a flush: what it makes of what is kept of its file.
use Rattle.std.proofs.Common.{◌≡◌, refl, ℕ, ◌==◌, Bool, true, false, cond, List, ◌∷◌}
use Rattle.cs_bits.specs.declared.Caps.{Caps}
use Rattle.cs_capsnap.specs.CapSnaps.{without_tid}
use Rattle.cs_flush.specs.Flushes as flushes
use Rattle.cs_parts.specs.Capabilities.{delivered}
use Rattle.cs_inode.specs.Inodes.{after_ack}
use Rattle.cs_laws.specs.declared.events.Event.TheVariants as events
use Rattle.cs_laws.specs.declared.answers.Answer.TheVariants as answers
use Rattle.cs_laws.specs.declared.answers.Entry.{Entry}
use Rattle.cs_laws.specs.History.{client, dirty}
use Rattle.cs_laws.specs.Runs.{CanFollow}
use Rattle.cs_theorems.specs.Queues.{snaps}
use Rattle.cs_theorems.specs.Unacked.{unacked}
use Rattle.cs_files.specs.Rows.{inode}
use Rattle.cs_inode.specs.Calls.{with_caps}

-- one may be delivered at any time
pub can_deliver : (h : List Entry) → CanFollow h events.ToClient
can_deliver h = record { spelled = refl; setup = λ is. absurd cc }

pub cap_row : (h : List Entry) (g seq : ℕ) (bits : Caps) (end f : ℕ)
    → inode (record { event = events.ToClient; answer = answers.Cap g seq bits end } ∷ h) f ≡ cond (g == f) (with_caps bits seq end (inode h f)) (inode h f)
cap_row h g seq bits end f = at (g == f)
  where
    at : (b : Bool) → record (inode h f) { caps = cond b (delivered (client h f) bits seq end) (client h f) }
        ≡ cond b (with_caps bits seq end (inode h f)) (inode h f)
    at true = refl
    at false = refl

pub ack_row : (h : List Entry) (g tid f : ℕ)
    → inode (record { event = events.ToClient; answer = answers.FlushAck g tid } ∷ h) f ≡ cond (g == f) (after_ack tid (inode h f)) (inode h f)
ack_row h g tid f = at (g == f)
  where
    at : (b : Bool) → record (inode h f) {
      snaps = cond b (without_tid tid (snaps h f)) (snaps h f);
      flushes = record { dirty = dirty h f; unacked = cond b (flushes.after_ack tid (unacked h f)) (unacked h f) };
    } ≡ cond b (after_ack tid (inode h f)) (inode h f)
    at true = refl
    at false = refl
