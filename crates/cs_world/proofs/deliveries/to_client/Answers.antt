use Rattle.std.proofs.Common.{◌≡◌, ◌∙◌, ◌∷◌, refl, sym}
use Rattle.cs_laws.specs.History.{to_client}
use Rattle.cs_world.specs.Tables.{past}
use Rattle.cs_world.proofs.Accepted.{client_accepts}
use Rattle.cs_world.proofs.Delivered.{told_steps}
use Rattle.cs_world.proofs.deliveries.to_client.Goals as goal

pub step_message-requires : goal.step_message-requires
step_message-requires c =
    let s = c.args.state.now in
    let t = c.requires.parts in
    client_accepts s.pages (past s) s.client c.in-Some.message c.pop_front.new.self.items c.requires.run t.client (sym t.links.to_client ∙ c.in-Some.ensures.items)

pub returns-clause-ok : goal.returns-clause-ok
returns-clause-ok c =
    let s = c.args.state.now in
    let h = past s in
    let m = c.in-Some.message in
    let rest = c.pop_front.new.self.items in
    let t = c.requires.parts in
    let first : to_client h ≡ m ∷ rest = sym t.links.to_client ∙ c.in-Some.ensures.items in
    record {
      after =
          told_steps s.pages h c.requires.run s.client t.client m c.in_ok-answer.answer c.step_message.new.self s.server s.to_server.items rest first
          (client_accepts s.pages h s.client m rest c.requires.run t.client first) c.in_ok-answer.ensures.answer c.in_ok-answer.ensures.after t.server t.links.to_server;
      entries = refl;
      pages = refl;
    }
