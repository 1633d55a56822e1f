use Rattle.std.proofs.Common.{◌≡◌, ◌∙◌, ◌+◌, refl, ap, Some}
use Rattle.cs_inode.specs.declared.answers.SnapStep.{SnapStep}
use Rattle.cs_inode.specs.declared.answers.SnapStep.TheVariants as snap
use Rattle.cs_client.proofs.Sends.{drawn_below, snap_sent_tables, snap_unsent}
use Rattle.cs_client.proofs.flushes.flush_snaps.Goals as goal

pub start_snap_flush-requires : goal.start_snap_flush-requires
start_snap_flush-requires c = drawn_below c.args.files.now c.args.flushes.now c.after.result c.requires.drawn c.after.ensures

pub returns-in_default-clause-tables : goal.returns-in_default-clause-tables
returns-in_default-clause-tables c = λ rs t.
    snap_unsent c.args.files.now c.start_snap_flush.new.files c.args.file c.start_snap_flush.result c.start_snap_flush.ensures.rows
    (λ f row. rw c.in_default.is refl)
    rs c.args.flushes.now t

pub returns-in-None-clause-tables : goal.returns-in-None-clause-tables
returns-in-None-clause-tables c = λ rs t.
    let is : c.start_snap_flush.result ≡ Some snap.None = c.in-Some.is ∙ ap (λ (x : SnapStep). Some x) c.in-None.is in
    snap_unsent c.args.files.now c.start_snap_flush.new.files c.args.file c.start_snap_flush.result c.start_snap_flush.ensures.rows
    (λ f row. rw is refl) rs c.args.flushes.now t

pub returns-in-Writing-clause-tables : goal.returns-in-Writing-clause-tables
returns-in-Writing-clause-tables c = λ rs t.
    let is : c.start_snap_flush.result ≡ Some snap.Writing = c.in-Some.is ∙ ap (λ (x : SnapStep). Some x) c.in-Writing.is in
    snap_unsent c.args.files.now c.start_snap_flush.new.files c.args.file c.start_snap_flush.result c.start_snap_flush.ensures.rows
    (λ f row. rw is refl) rs c.args.flushes.now t

pub returns-in_err-push-in-Sent-clause-tables : goal.returns-in_err-push-in-Sent-clause-tables
returns-in_err-push-in-Sent-clause-tables c =
    let is : c.start_snap_flush.result ≡ Some (snap.Sent c.in-Sent.field-0) = c.in-Some.is ∙ ap (λ (x : SnapStep). Some x) c.in-Sent.is in
    snap_sent_tables c.args.files.now c.start_snap_flush.new.files c.args.file c.after.result c.args.flushes.now (c.args.flushes.now + 1)
    c.start_snap_flush.result
    c.in-Sent.field-0 c.start_snap_flush.ensures.rows c.start_snap_flush.ensures.answer is c.after.ensures refl

pub returns-in_ok-push-in-Sent-clause-tables : goal.returns-in_ok-push-in-Sent-clause-tables
returns-in_ok-push-in-Sent-clause-tables c =
    let is : c.start_snap_flush.result ≡ Some (snap.Sent c.in-Sent.field-0) = c.in-Some.is ∙ ap (λ (x : SnapStep). Some x) c.in-Sent.is in
    snap_sent_tables c.args.files.now c.start_snap_flush.new.files c.args.file c.after.result c.args.flushes.now (c.args.flushes.now + 1)
    c.start_snap_flush.result
    c.in-Sent.field-0 c.start_snap_flush.ensures.rows c.start_snap_flush.ensures.answer is c.after.ensures refl
