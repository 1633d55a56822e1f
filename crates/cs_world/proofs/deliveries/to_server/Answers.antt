use Rattle.std.proofs.Common.{◌≡◌, ◌∙◌, ◌∷◌, ◌++◌, [], refl, sym, ap, arith, rules}
use Rattle.cs_laws.specs.declared.events.Event.TheVariants as events
use Rattle.cs_laws.specs.History.{to_server}
use Rattle.cs_mds.specs.Answers.{calls_log, message_sent}
use Rattle.cs_world.specs.Tables.{past}
use Rattle.std.proofs.lemmas.List.{length-reverse}
use Rattle.cs_world.proofs.Accepted.{fits_server, has_inodes, is_for_server, is_whole}
use Rattle.cs_world.proofs.Delivered.{heard_answer, received_steps}
use Rattle.cs_world.proofs.Halts.{halts_logged, logged_after}
use Rattle.cs_world.proofs.Recorded.{delivered_records}
use Rattle.cs_world.proofs.Serves.{server_after}
use Rattle.cs_world.proofs.Stored.{any_err}
use Rattle.cs_world.proofs.deliveries.to_server.Goals as goal

pub step_message-requires-clause-kind : goal.step_message-requires-clause-kind
step_message-requires-clause-kind g c κs within =
    let s = c.args.state.now in
    is_for_server s.pages (past s) c.in-Some.message c.pop_front.new.self.items c.requires.ready.run (sym c.requires.ready.parts.links.to_server ∙ c.in-Some.ensures.items)

pub step_message-requires-clause-fits : goal.step_message-requires-clause-fits
step_message-requires-clause-fits g c κs within =
    let s = c.args.state.now in
    fits_server s.pages (past s) c.in-Some.message c.pop_front.new.self.items c.requires.ready.run (sym c.requires.ready.parts.links.to_server ∙ c.in-Some.ensures.items)

pub step_message-requires-clause-room : goal.step_message-requires-clause-room
step_message-requires-clause-room g c κs within =
    let s = c.args.state.now in
    has_inodes s.pages (past s) s.server c.requires.ready.run c.requires.ready.parts.server (omega (arith, c.requires.ready.room, length-reverse s.entries.items))

pub step_message-requires-clause-whole : goal.step_message-requires-clause-whole
step_message-requires-clause-whole g c κs within =
    let s = c.args.state.now in is_whole s.pages (past s) s.server c.requires.ready.run c.requires.ready.parts.server

pub returns-clause-ok : goal.returns-clause-ok
returns-clause-ok g c =
    let s = c.args.state.now in
    let h = past s in
    let m = c.in-Some.message in
    let rest = c.pop_front.new.self.items in
    let a = c.in_ok-answer.answer in
    let t = c.requires.ready.parts in
    let done = c.in_ok-answer.ensures in
    let first : to_server h ≡ m ∷ rest = sym t.links.to_server ∙ c.in-Some.ensures.items in
    record {
      after =
          received_steps s.pages h m a s.client s.server c.step_message.new.self s.to_client.items c.send_all.new.link.items rest first
          (is_for_server s.pages h m rest c.requires.ready.run first) t.client t.server done.answer done.after t.links.to_client
          (c.in_ok-send_all.ensures ∙ ap (λ ms. s.to_client.items ++ ms) (done.sent ∙ ap (λ ms. ms ++ message_sent a s.server.durable) c.new-out.ensures));
      entries = refl;
      pages = refl;
    }

pub returns-in_err-send_all-clause-log : goal.returns-in_err-send_all-clause-log
returns-in_err-send_all-clause-log g c =
    let s = c.args.state.now in
    let h = past s in
    let m = c.in-Some.message in
    let rest = c.pop_front.new.self.items in
    let a = c.in_ok-answer.answer in
    let i = c.requires.ready.parts.server in
    let new = c.step_message.new.log in
    let done = c.in_ok-answer.ensures in
    let first : to_server h ≡ m ∷ rest = sym c.requires.ready.parts.links.to_server ∙ c.in-Some.ensures.items in
    let is = heard_answer s.pages h s.server m rest a i first done.answer in
    let after = server_after h s.server c.step_message.new.self events.ToMds a (m ∷ []) refl (delivered_records h m rest a first) i done.after in
    record {
      halted =
          any_err c.from_residual-in_err-send_all.result
          (halts_logged s.pages h events.ToMds a (g.L.MdsLog.records new) (g.L.MdsLog.durable new) is
          (logged_after (record { event = events.ToMds; answer = a } ∷ h) c.step_message.new.self (g.L.MdsLog.records new) (g.L.MdsLog.durable new) after done.log));
      quiet = λ none. done.kept (ap (λ y. calls_log events.ToMds y) (sym done.answer ∙ is) ∙ none);
      faults = record { later = done.faults.later; cause = λ failed. search rules; called = λ failed. search rules };
    }
