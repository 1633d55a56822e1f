use Rattle.std.proofs.Common.{◌≡◌, ◌∙◌, sym, Ok, true, [], ◌∷◌, ◌++◌, arith}
use Rattle.std.proofs.lemmas.Grind.{common_steps}
use Rattle.std.proofs.lemmas.List.Elements.{All-push}
use Rattle.cs_laws.specs.Fits.{fits}
use Rattle.cs_laws.specs.Grammar.{line_event}
use Rattle.cs_laws.specs.Runs.{IsScript}
use Rattle.cs_script.proofs.RoundTrip.{line_event_fits, line_event_early}
use Rattle.cs_script.proofs.SetupOrder.{one_behind}
use Rattle.cs_script.proofs.lines.push_line.Goals as goal
use Rattle.cs_script.proofs.lines.push_line.Goals.{in-Ok, in-Err}

pub returns-clause-script : goal.returns-clause-script
returns-clause-script c = λ old flag.
    let read : line_event c.args.setup c.args.line.now ≡ Ok c.in_ok-event.event = grind (arith, common_steps) in
    let fit = line_event_fits c.args.setup c.args.line.now c.in_ok-event.event read in
    let early = line_event_early c.args.setup c.args.line.now c.in_ok-event.event read in
    let more : IsScript (c.args.events.now.items ++ c.in_ok-event.event ∷ []) = record {
      spelled = All-push (λ e. fits e ≡ true) c.args.events.now.items c.in_ok-event.event old.spelled fit;
      setup = one_behind true c.args.events.now.items c.in_ok-event.event old.setup (λ is. sym flag ∙ early is);
    } in
    elim c.match-push.branch [
      | in-Ok w ↦ rw (w.result-is, c.push.ensures.items, w.in-Ok.is) more
      | in-Err w ↦ rw w.result-is tt
    ]
