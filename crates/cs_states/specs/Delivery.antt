-- How far an operation of write-back has come, and the steps that change it. One that was never sent
-- has no delivery.
use Rattle.std.specs.Prelude.{ℕ, ◌+◌, ◌-◌, ◌==◌, Bool, true, false, nat_le, Option, Some, None, if◌then◌else◌}
use Rattle.std.specs.Option.{option_map_or}
use Rattle.cs_states.specs.declared.delivery.Delivery.{Delivery}
use Rattle.cs_states.specs.declared.delivery.Reply.{Reply}
use Rattle.cs_states.specs.declared.delivery.Reply.TheVariants as replies
use Rattle.cs_states.specs.declared.delivery.Resend.{Resend}
use Rattle.cs_states.specs.declared.delivery.Resend.TheVariants as resends

-- it is sent for the first time
abbrev pub sent_once : Delivery
sent_once = record { copies = 1; replies = 0; acked = false }

abbrev pub copies_of : Option Delivery → ℕ
copies_of d = option_map_or (λ x. x.copies) d 0

abbrev pub replies_of : Option Delivery → ℕ
replies_of d = option_map_or (λ x. x.replies) d 0

-- a copy comes to the store, which replies
abbrev pub after_arrival : Delivery → Delivery
after_arrival x = if x.copies == 0 then x else record x { copies = x.copies - 1; replies = x.replies + 1 }

-- a reply comes to the client
abbrev pub reply_to : Option Delivery → Reply
reply_to None = replies.Unknown
reply_to (Some x) =
    if x.replies == 0 then replies.Unknown else if x.acked then replies.Late else replies.First

abbrev pub after_reply : Delivery → Delivery
after_reply x = if x.replies == 0 then x else record x { replies = x.replies - 1; acked = true }

-- a reply, or a copy, is lost
abbrev pub on_the_way : Bool → Option Delivery → ℕ
on_the_way reply d = if reply then replies_of d else copies_of d

abbrev pub after_loss : Bool → Delivery → Delivery
after_loss reply x =
    if reply then record x { replies = x.replies - 1 } else record x { copies = x.copies - 1 }

-- it is sent again
abbrev pub resend_answer : Option Delivery → Resend
resend_answer None = resends.Unknown
resend_answer (Some x) =
    if x.acked then resends.Late else if nat_le 8 x.copies then resends.Copies else resends.Sent

abbrev pub after_resend : Delivery → Delivery
after_resend x = if x.acked then x else if nat_le 8 x.copies then x else record x { copies = x.copies + 1 }
