use Rattle.std.proofs.Common.{◌≡◌, ap, refl, ◌+◌, [], ◌∷◌, drop, arith}
use Rattle.std.proofs.lemmas.Grind.{common_steps}
use Rattle.cs_status.proofs.Fronts.{any_err}
use Rattle.cs_trim_run.proofs.Running.{goes_on, starts, stops_in_end, stops_in_event, stops_in_header, stops_in_line, writes_all}
use Rattle.cs_trim_run.proofs.journal.write_journal.Goals as goal

pub returns-in_err-write_all-clause-err : goal.returns-in_err-write_all-clause-err
returns-in_err-write_all-clause-err g c =
    any_err c.from_residual.result (stops_in_header _ _ c.args.events.now c.in_err-write_all.ensures.err)

pub loop-event-init : goal.loop-event-init
loop-event-init g c = record {
  written = starts _ _ c.args.events.now c.new-run.result c.in_ok-write_all.ensures.ok c.new-run.ensures;
  number = refl;
  sink = c.in_ok-write_all.ensures.cause.later;
}

pub returns-in_err-answer-clause-err : goal.returns-in_err-answer-clause-err
returns-in_err-answer-clause-err g c =
    any_err c.from_residual-in_err-answer.result
    (stops_in_event _ _ c.args.events.now _ _ _ c.loop-event.invariant.written)

pub returns-in_err-write_entry-clause-err : goal.returns-in_err-write_entry-clause-err
returns-in_err-write_entry-clause-err g c =
    let es = c.args.events.now in
    let i = c.loop-event.event-index in
    let e = c.event-item.result in
    let left : drop i es ≡ e ∷ drop (i + 1) es = grind (arith, common_steps, c.event-item.is, c.loop-event-test.true) in
    any_err c.from_residual-in_err-write_entry.result
    (stops_in_line _ _ _ es (drop i es) (drop (i + 1) es) e i _ _ _ _ left
    (ap (λ n. n + 1) c.loop-event.invariant.number) c.loop-event.invariant.written
    c.in_ok-answer.ensures c.in_err-write_entry.ensures.err)

pub loop-event-preserved : goal.loop-event-preserved
loop-event-preserved g c =
    let es = c.args.events.now in
    let i = c.loop-event.event-index in
    let e = c.event-item.result in
    let left : drop i es ≡ e ∷ drop (i + 1) es = grind (arith, common_steps, c.event-item.is, c.loop-event-test.true) in
    record {
      written = goes_on _ _ _ es (drop i es) (drop (i + 1) es) e i _ _ _ _ left (ap (λ n. n + 1) c.loop-event.invariant.number)
          c.loop-event.invariant.written c.in_ok-answer.ensures c.in_ok-write_entry.ensures.ok;
      number = ap (λ n. n + 1) c.loop-event.invariant.number;
      sink = omega (arith, c.in_ok-write_entry.ensures.later, c.loop-event.invariant.sink);
    }

pub returns-in_err-write_end-clause-err : goal.returns-in_err-write_end-clause-err
returns-in_err-write_end-clause-err g c =
    let es = c.args.events.now in
    let none : drop c.loop-event.event-index es ≡ [] = grind (arith, common_steps, c.loop-event-test.false) in
    any_err c.from_residual-in_err-write_end.result
    (stops_in_end _ _ _ es _ _ _ _ none refl c.loop-event.invariant.written c.in_err-write_end.ensures.err)

pub returns-clause-ok : goal.returns-clause-ok
returns-clause-ok g c =
    let es = c.args.events.now in
    let none : drop c.loop-event.event-index es ≡ [] = grind (arith, common_steps, c.loop-event-test.false) in
    writes_all _ _ _ es _ _ _ _ none refl c.loop-event.invariant.written c.in_ok-write_end.ensures.ok
