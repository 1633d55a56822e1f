use Rattle.std.proofs.Common.{◌≡◌, ◌∙◌, ◌∷◌, ◌++◌, [], refl, ap, rules, arith}
use Rattle.std.proofs.lemmas.List.{length-reverse}
use Rattle.cs_laws.specs.Answers.{answer}
use Rattle.cs_mds.specs.Answers.{calls_log}
use Rattle.cs_world.specs.Serving.{event_sent}
use Rattle.cs_world.specs.Tables.{past}
use Rattle.cs_world.proofs.Halts.{halts_logged, logged_after}
use Rattle.cs_world.proofs.Sent.{served_links}
use Rattle.cs_world.proofs.Recorded.{served_records}
use Rattle.cs_world.proofs.Serves.{has_number, served_answer_is, served_later, server_after}
use Rattle.cs_world.proofs.Stays.{client_stays}
use Rattle.cs_world.proofs.Stored.{any_err}
use Rattle.cs_world.proofs.server.serve.Goals as goal

pub serve_by-requires-clause-number : goal.serve_by-requires-clause-number
serve_by-requires-clause-number g c κs within =
    let s = c.args.state.now in
    has_number s.pages (past s) s.server c.requires.ready.parts.server c.args.event.now c.requires.served c.requires.ready.run
    (omega (arith, c.requires.ready.room, length-reverse s.entries.items))

pub returns-clause-ok : goal.returns-clause-ok
returns-clause-ok g c =
    let s = c.args.state.now in
    let h = past s in
    let e = c.args.event.now in
    let a = c.in_ok-answer.answer in
    let t = c.requires.ready.parts in
    let done = c.in_ok-answer.ensures in
    let is : a ≡ answer s.pages h e = done.answer ∙ served_answer_is s.pages h s.server t.server e c.requires.served in
    record {
      after = record {
        answer = is;
        client = client_stays e a h s.client c.requires.served t.client;
        server =
            server_after h s.server c.serve_by.new.server e a [] (served_later e c.requires.served) (served_records h e a c.requires.served) t.server done.after;
        links =
            served_links s.pages h s.server e a s.to_client.items s.to_server.items c.send_all.new.link.items c.requires.ready.run t.server c.requires.served is t.links
            (c.in_ok-send_all.ensures ∙ ap (λ ms. s.to_client.items ++ ms) (done.sent ∙ ap (λ ms. ms ++ event_sent e a s.server) c.new-out.ensures));
      };
      entries = refl;
      pages = refl;
    }

pub returns-in_err-send_all-clause-log : goal.returns-in_err-send_all-clause-log
returns-in_err-send_all-clause-log g c =
    let s = c.args.state.now in
    let h = past s in
    let e = c.args.event.now in
    let a = c.in_ok-answer.answer in
    let i = c.requires.ready.parts.server in
    let new = c.serve_by.new.log in
    let done = c.in_ok-answer.ensures in
    let served = served_answer_is s.pages h s.server i e c.requires.served in
    let after = server_after h s.server c.serve_by.new.server e a [] (served_later e c.requires.served) (served_records h e a c.requires.served) i done.after in
    record {
      halted =
          any_err c.from_residual-in_err-send_all.result
          (halts_logged s.pages h e a (g.L.MdsLog.records new) (g.L.MdsLog.durable new) (done.answer ∙ served)
          (logged_after (record { event = e; answer = a } ∷ h) c.serve_by.new.server (g.L.MdsLog.records new) (g.L.MdsLog.durable new) after done.log));
      quiet = λ none. done.quiet (ap (λ y. calls_log e y) served ∙ none);
      faults = record { later = done.faults.later; cause = λ failed. search rules; called = λ failed. search rules };
    }
