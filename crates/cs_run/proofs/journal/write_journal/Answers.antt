use Rattle.std.proofs.Common.{◌≡◌, ◌∙◌, suc, ◌+◌, ◌∷◌, sym, ap, refl, subst, length, add-one, arith}
use Rattle.std.proofs.lemmas.List.{length-reverse}
use Rattle.cs_laws.specs.declared.answers.Entry.{Entry}
use Rattle.cs_laws.specs.declared.faults.StepFault.{StepFault}
use Rattle.std.specs.Io.KnownBytes.{Appends}
use Rattle.cs_io.specs.Whole.{AppendsFront}
use Rattle.cs_laws.specs.Journal.{journal, entry, line}
use Rattle.cs_run.specs.declared.run_fault.RunFault.TheVariants as faults
use Rattle.cs_status.specs.declared.write_fault.WriteFault.{WriteFault}
use Rattle.cs_run.specs.Held.{Held, AgreesAt, IsBlank}
use Rattle.cs_run.specs.Statuses.{of_step, of_write}
use Rattle.cs_run.proofs.Journals.{line_step, text_step}
use Rattle.cs_run.proofs.Agreeing.{nothing_agrees}
use Rattle.cs_run.proofs.Halting.{step_holds}
use Rattle.cs_run.proofs.Runs.{script_run, next_follows}
use Rattle.cs_run.proofs.Stopping.{journal_step, journal_all, stops_in_header, stops_in_event, stops_in_line, stops_in_end, stops_of_write, stops_of_step, if_err_is}
use Rattle.cs_run.proofs.journal.write_journal.Goals as goal

pub returns-in_err-write_all-clause-err : goal.returns-in_err-write_all-clause-err
returns-in_err-write_all-clause-err g c =
    let w = c.args.world.now in
    let held : Held = record { ops = g.O.ObjStore.ops w.store; records = g.L.MdsLog.records w.log; durable = g.L.MdsLog.durable w.log } in
    let blank : IsBlank held = record { store = c.requires.store; log = c.requires.log; durable = c.requires.durable } in
    let stopped = stops_in_header w.pages c.args.events.now _ _ held blank c.in_err-write_all.ensures.err in
    if_err_is _ c.from_residual.result faults.Sink c.from_residual.ensures.1 stopped

pub loop-event-init : goal.loop-event-init
loop-event-init g c =
    let w = c.args.world.now in
    let held : Held = record { ops = g.O.ObjStore.ops w.store; records = g.L.MdsLog.records w.log; durable = g.L.MdsLog.durable w.log } in
    let blank : IsBlank held = record { store = c.requires.store; log = c.requires.log; durable = c.requires.durable } in
    record {
      live = c.requires.live;
      pages = refl;
      count = ap length c.requires.fresh;
      done = c.requires.fresh;
      agrees = subst (λ h. AgreesAt h held) (sym c.requires.fresh) (nothing_agrees held blank);
      written = rw c.requires.fresh c.in_ok-write_all.ensures.ok;
      sink = c.in_ok-write_all.ensures.cause.later;
      store = omega arith;
      log = omega arith;
    }

pub step-requires-clause-setup : goal.step-requires-clause-setup
step-requires-clause-setup g c =
    let i = c.loop-event.invariant in
    let w = c.loop-event.world in
    let grown = journal_step c.args.world.now.pages w.pages w.history (entry w.pages w.history c.event-item.result ∷ w.history) c.args.events.now c.loop-event.event-index c.event-item.result
    c.loop-event-test.true c.event-item.is i.pages refl i.done in
    let run = script_run c.args.world.now.pages c.args.events.now c.requires.script in
    λ _ _. (next_follows c.args.world.now.pages w.history (entry w.pages w.history c.event-item.result ∷ w.history) c.event-item.result (suc c.loop-event.event-index) c.args.events.now run grown
    (ap (λ k. entry k w.history c.event-item.result ∷ w.history) i.pages)).setup

pub returns-in_err-answer-clause-err : goal.returns-in_err-answer-clause-err
returns-in_err-answer-clause-err g c =
    let i = c.loop-event.invariant in
    let w = c.loop-event.world in
    let fault : StepFault = c.in_err-answer.field-0.0 in
    let holds =
    step_holds g.O.ObjStore.ops g.O.ObjStore.faults g.L.MdsLog.records g.L.MdsLog.durable g.L.MdsLog.faults w.pages w.history c.event-item.result
    w.store c.step.new.self.store w.log c.step.new.self.log fault i.agrees c.in_err-answer.ensures.store c.in_err-answer.ensures.log in
    let v = c.step.new.self in
    let held : Held = record { ops = g.O.ObjStore.ops v.store; records = g.L.MdsLog.records v.log; durable = g.L.MdsLog.durable v.log } in
    let stopped =
    stops_in_event fault c.args.world.now.pages w.pages c.args.events.now c.loop-event.event-index c.event-item.result w.history _ _ held
    c.loop-event-test.true c.event-item.is i.pages i.done i.written holds in
    if_err_is _ c.from_residual-in_err-answer.result (of_step fault) c.from_residual-in_err-answer.ensures.1 (stops_of_step fault _ _ _ _ _ stopped)

pub returns-in_err-write_entry-clause-err : goal.returns-in_err-write_entry-clause-err
returns-in_err-write_entry-clause-err g c =
    let i = c.loop-event.invariant in
    let w = c.loop-event.world in
    let x : Entry = entry w.pages w.history c.event-item.result in
    let grown : c.step.new.self.history ≡ x ∷ w.history = ap (λ s. s.history) c.in_ok-answer.ensures.history in
    let stepped = journal_step c.args.world.now.pages w.pages w.history c.step.new.self.history c.args.events.now c.loop-event.event-index c.event-item.result
    c.loop-event-test.true c.event-item.is i.pages grown i.done in
    let answered : record { event = c.event-item.result; answer = c.in_ok-answer.answer } ≡ x = ap (λ a. let y : Entry = record { event = c.event-item.result; answer = a } in y) c.in_ok-answer.ensures.answer in
    let P : Entry → Type 0 = λ y. AppendsFront (g.K.Sink.taken c.loop-event.sink) (g.K.Sink.taken c.write_entry.new.sink) (line (length c.entries.result.now) y) in
    let count : length c.entries.result.now ≡ length w.history + 1 = ap length c.entries.ensures ∙ (length-reverse c.step.new.self.history ∙ (ap length grown ∙ sym (add-one (length w.history)))) in
    let v = c.step.new.self in
    let held : Held = record { ops = g.O.ObjStore.ops v.store; records = g.L.MdsLog.records v.log; durable = g.L.MdsLog.durable v.log } in
    let stopped =
    stops_in_line c.args.world.now.pages c.args.events.now c.loop-event.event-index w.history v.history x _ _ _ _ held
    c.loop-event-test.true c.in_ok-answer.ensures.agrees i.done grown stepped count i.written (subst P answered c.in_err-write_entry.ensures.err) in
    let fault : WriteFault = c.in_err-write_entry.field-0.0 in
    if_err_is _ c.from_residual-in_err-write_entry.result (of_write fault) c.from_residual-in_err-write_entry.ensures.1 (stops_of_write fault _ _ _ _ _ stopped)

pub loop-event-preserved : goal.loop-event-preserved
loop-event-preserved g c =
    let i = c.loop-event.invariant in
    let w = c.loop-event.world in
    let x : Entry = entry w.pages w.history c.event-item.result in
    let stepped = c.in_ok-answer.ensures.history in
    let grown : c.step.new.self.history ≡ x ∷ w.history = ap (λ s. s.history) stepped in
    let answered : record { event = c.event-item.result; answer = c.in_ok-answer.answer } ≡ x = ap (λ a. let y : Entry = record { event = c.event-item.result; answer = a } in y) c.in_ok-answer.ensures.answer in
    let P : Entry → Type 0 = λ y. Appends (g.K.Sink.taken c.loop-event.sink) (g.K.Sink.taken c.write_entry.new.sink) (line (length c.entries.result.now) y) in
    let count : length c.entries.result.now ≡ length w.history + 1 = ap length c.entries.ensures ∙ (length-reverse c.step.new.self.history ∙ (ap length grown ∙ sym (add-one (length w.history)))) in
    record {
      live = ap (λ s. s.live) stepped ∙ i.live;
      pages = ap (λ s. s.pages) stepped ∙ i.pages;
      count = omega (arith, ap length grown, i.count);
      done = rw add-one
          (journal_step c.args.world.now.pages w.pages w.history c.step.new.self.history c.args.events.now c.loop-event.event-index c.event-item.result
          c.loop-event-test.true c.event-item.is i.pages grown i.done);
      agrees = c.in_ok-answer.ensures.agrees;
      written = line_step _ _ _ w.history _ x _ grown count i.written (subst P answered c.in_ok-write_entry.ensures.ok);
      sink = omega (arith, c.in_ok-write_entry.ensures.later, i.sink);
      store = omega (arith, c.in_ok-answer.ensures.store.faults.later, i.store);
      log = omega (arith, c.in_ok-answer.ensures.log.faults.later, i.log);
    }

pub returns-in_err-write_end-clause-err : goal.returns-in_err-write_end-clause-err
returns-in_err-write_end-clause-err g c =
    let i = c.loop-event.invariant in
    let w = c.loop-event.world in
    let count : length c.entries-count.result.now ≡ length w.history = ap length c.entries-count.ensures ∙ length-reverse w.history in
    let held : Held = record { ops = g.O.ObjStore.ops w.store; records = g.L.MdsLog.records w.log; durable = g.L.MdsLog.durable w.log } in
    let stopped =
    stops_in_end c.args.world.now.pages c.args.events.now c.loop-event.event-index (length c.entries-count.result.now) w.history _ _ _ held
    (omega (arith, c.loop-event-test.false, c.loop-event.auto.event-index-end)) i.agrees i.done count i.written c.in_err-write_end.ensures.err in
    let fault : WriteFault = c.in_err-write_end.field-0.0 in
    if_err_is _ c.from_residual-in_err-write_end.result (of_write fault) c.from_residual-in_err-write_end.ensures.1 (stops_of_write fault _ _ _ _ _ stopped)

pub returns-clause-ok : goal.returns-clause-ok
returns-clause-ok g c =
    let i = c.loop-event.invariant in
    let w = c.loop-event.world in
    let same = journal_all c.args.world.now.pages w.history c.args.events.now c.loop-event.event-index c.loop-event-test.false i.done in
    let count : length c.entries-count.result.now ≡ length w.history = ap length c.entries-count.ensures ∙ length-reverse w.history in
    text_step _ _ _ w.history (journal c.args.world.now.pages c.args.events.now) (length c.entries-count.result.now) same count i.written c.in_ok-write_end.ensures.ok

pub returns-clause-agrees : goal.returns-clause-agrees
returns-clause-agrees g c =
    let i = c.loop-event.invariant in
    let w = c.loop-event.world in
    let held : Held = record { ops = g.O.ObjStore.ops w.store; records = g.L.MdsLog.records w.log; durable = g.L.MdsLog.durable w.log } in
    subst (λ h. AgreesAt h held)
    (journal_all c.args.world.now.pages w.history c.args.events.now c.loop-event.event-index c.loop-event-test.false i.done) i.agrees
