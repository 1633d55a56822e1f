-- Copies, replies and their steps are counted.
use Rattle.std.proofs.Common.{◌≡◌, refl, ℕ, ◌+◌, ◌<◌, nat_lt, true, false, [], ◌∷◌, List, arith}
use Rattle.std.proofs.lemmas.Bool.Decides.{nat_tests}
use Rattle.cs_states.specs.declared.delivery.Delivery.{Delivery}
use Rattle.cs_states.specs.Delivery.{after_arrival, after_reply}
use Rattle.cs_states.specs.Deliveries.{Step, resent, arrived, replied, lost, after, IsLife, sends, arrivals, replies, lost_copies, lost_replies}

arrival_takes_a_copy : (d : Delivery) → 0 < d.copies → (after_arrival d).copies + 1 ≡ d.copies
arrival_takes_a_copy d l = grind (arith, nat_tests)

arrival_adds_a_reply : (d : Delivery) → 0 < d.copies → (after_arrival d).replies ≡ d.replies + 1
arrival_adds_a_reply d l = grind (arith, nat_tests)

arrival_acks_nothing : (d : Delivery) → (after_arrival d).acked ≡ d.acked
arrival_acks_nothing d = grind (arith, nat_tests)

reply_takes_one : (d : Delivery) → 0 < d.replies → (after_reply d).replies + 1 ≡ d.replies
reply_takes_one d l = grind (arith, nat_tests)

reply_leaves_copies : (d : Delivery) → (after_reply d).copies ≡ d.copies
reply_leaves_copies d = grind (arith, nat_tests)

reply_acks : (d : Delivery) → 0 < d.replies → (after_reply d).acked ≡ true
reply_acks d l = grind (arith, nat_tests)

more_than_none : (n : ℕ) → true ≡ nat_lt 0 (n + 1)
more_than_none n = grind (arith, nat_tests)

pub copies_counted : (h : List Step) → IsLife h → (after h).copies + arrivals h + lost_copies h ≡ sends h
copies_counted [] l = refl
copies_counted (resent ∷ h) l = omega (arith, copies_counted h l)
copies_counted (arrived ∷ h) l = omega (arith, arrival_takes_a_copy (after h) l.0, copies_counted h l.1)
copies_counted (replied ∷ h) l = omega (arith, reply_leaves_copies (after h), copies_counted h l.1)
copies_counted (lost true ∷ h) l = copies_counted h l.1
copies_counted (lost false ∷ h) l = omega (arith, l.0, copies_counted h l.1)

pub replies_counted : (h : List Step) → IsLife h → (after h).replies + replies h + lost_replies h ≡ arrivals h
replies_counted [] l = refl
replies_counted (resent ∷ h) l = replies_counted h l
replies_counted (arrived ∷ h) l = omega (arith, arrival_adds_a_reply (after h) l.0, replies_counted h l.1)
replies_counted (replied ∷ h) l = omega (arith, reply_takes_one (after h) l.0, replies_counted h l.1)
replies_counted (lost true ∷ h) l = omega (arith, l.0, replies_counted h l.1)
replies_counted (lost false ∷ h) l = replies_counted h l.1

pub acked_by_a_reply : (h : List Step) → IsLife h → (after h).acked ≡ nat_lt 0 (replies h)
acked_by_a_reply [] l = refl
acked_by_a_reply (resent ∷ h) l = acked_by_a_reply h l
acked_by_a_reply (arrived ∷ h) l = cc (arrival_acks_nothing (after h), acked_by_a_reply h l.1)
acked_by_a_reply (replied ∷ h) l = cc (reply_acks (after h) l.0, more_than_none (replies h))
acked_by_a_reply (lost true ∷ h) l = acked_by_a_reply h l.1
acked_by_a_reply (lost false ∷ h) l = acked_by_a_reply h l.1
