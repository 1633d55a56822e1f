use Rattle.std.proofs.Common.{◌≡◌, ◌∙◌, ◌+◌, refl, ap, Some}
use Rattle.cs_inode.specs.declared.answers.FlushStep.{FlushStep}
use Rattle.cs_inode.specs.declared.answers.FlushStep.TheVariants as flush
use Rattle.cs_client.proofs.Puts.{same_tables}
use Rattle.cs_client.proofs.Sends.{drawn_below, flush_sent_tables, flush_unsent}
use Rattle.cs_client.proofs.flushes.flush.Goals as goal

pub start_flush-requires : goal.start_flush-requires
start_flush-requires c = drawn_below c.args.files.now c.args.flushes.now c.after.result c.requires.drawn c.after.ensures

pub returns-in_err-step-clause-tables : goal.returns-in_err-step-clause-tables
returns-in_err-step-clause-tables c = λ rs t. same_tables c.args.files.now c.start_flush.new.files c.in_err-step.ensures.err rs c.args.flushes.now t

pub returns-in_default-clause-tables : goal.returns-in_default-clause-tables
returns-in_default-clause-tables c = λ rs t.
    flush_unsent c.args.files.now c.start_flush.new.files c.args.file c.in_ok-step.field-0 c.in_ok-step.ensures.rows
    (λ f row. rw c.in_default.is refl) rs c.args.flushes.now t

pub returns-in-Snap-clause-tables : goal.returns-in-Snap-clause-tables
returns-in-Snap-clause-tables c = λ rs t.
    let is : c.in_ok-step.field-0 ≡ Some flush.Snap = c.in-Some.is ∙ ap (λ (x : FlushStep). Some x) c.in-Snap.is in
    flush_unsent c.args.files.now c.start_flush.new.files c.args.file c.in_ok-step.field-0 c.in_ok-step.ensures.rows (λ f row. rw is refl) rs
    c.args.flushes.now t

pub returns-in-Clean-clause-tables : goal.returns-in-Clean-clause-tables
returns-in-Clean-clause-tables c = λ rs t.
    let is : c.in_ok-step.field-0 ≡ Some flush.Clean = c.in-Some.is ∙ ap (λ (x : FlushStep). Some x) c.in-Clean.is in
    flush_unsent c.args.files.now c.start_flush.new.files c.args.file c.in_ok-step.field-0 c.in_ok-step.ensures.rows (λ f row. rw is refl) rs
    c.args.flushes.now t

pub returns-in_err-push-in-Sent-clause-tables : goal.returns-in_err-push-in-Sent-clause-tables
returns-in_err-push-in-Sent-clause-tables c =
    let is : c.in_ok-step.field-0 ≡ Some (flush.Sent c.in-Sent.field-0) = c.in-Some.is ∙ ap (λ (x : FlushStep). Some x) c.in-Sent.is in
    flush_sent_tables c.args.files.now c.start_flush.new.files c.args.file c.after.result c.args.flushes.now (c.args.flushes.now + 1) c.in_ok-step.field-0
    c.in-Sent.field-0 c.in_ok-step.ensures.rows c.in_ok-step.ensures.answer is c.after.ensures refl

pub returns-in_ok-push-in-Sent-clause-tables : goal.returns-in_ok-push-in-Sent-clause-tables
returns-in_ok-push-in-Sent-clause-tables c =
    let is : c.in_ok-step.field-0 ≡ Some (flush.Sent c.in-Sent.field-0) = c.in-Some.is ∙ ap (λ (x : FlushStep). Some x) c.in-Sent.is in
    flush_sent_tables c.args.files.now c.start_flush.new.files c.args.file c.after.result c.args.flushes.now (c.args.flushes.now + 1) c.in_ok-step.field-0
    c.in-Sent.field-0 c.in_ok-step.ensures.rows c.in_ok-step.ensures.answer is c.after.ensures refl
