use Rattle.std.proofs.Common.{◌≡◌, ◌∙◌, sym, []}
use Rattle.std.proofs.lemmas.List.{append-nil}
use Rattle.cs_laws.specs.Journal.{line}
use Rattle.cs_status.proofs.Fronts.{took_nothing, any_err, longer}
use Rattle.cs_run.proofs.journal.write_entry.Goals as goal

pub returns-in_err-print_entry-clause-err : goal.returns-in_err-print_entry-clause-err
returns-in_err-print_entry-clause-err g c = any_err c.from_residual.result (took_nothing _ _)

pub returns-in_err-write_all-clause-err : goal.returns-in_err-write_all-clause-err
returns-in_err-write_all-clause-err g c =
    let bytes : c.as_slice.result.now ≡ line c.args.number (record { event = c.args.event.now; answer = c.args.answer.now }) =
    c.as_slice.ensures ∙ rw c.clear.ensures at c.in_ok-print_entry.ensures.ok in
    any_err c.from_residual-in_err-write_all.result
    (longer _ _ c.as_slice.result.now [] _ (sym bytes ∙ sym (append-nil c.as_slice.result.now)) c.in_err-write_all.ensures.err)
