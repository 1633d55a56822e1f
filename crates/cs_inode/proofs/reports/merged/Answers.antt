use Rattle.std.proofs.Common.{◌≡◌, ◌∙◌, sym, refl, ◌-◌, Bool, true, false, not, Some, None, length, slice_get}
use Rattle.std.specs.Option.{option_copied}
use Rattle.cs_capsnap.specs.CapSnaps.{unacked}
use Rattle.cs_inode.specs.Reports.{first_report}
use Rattle.cs_inode.proofs.Apart.{all_untold}
use Rattle.cs_inode.proofs.Merging.{all_made, looked_up, one_more_file, one_more_snap}
use Rattle.cs_inode.proofs.reports.merged.Goals as goal
use Rattle.cs_inode.proofs.reports.merged.Goals.{then-not-report, else-not-report}

pub loop-report-preserved : goal.loop-report-preserved
loop-report-preserved c =
    let i = c.loop-report.invariant in
    let xs = c.args.files.now in
    let us = unacked c.args.snaps.now in
    let rs = c.loop-report.reports in
    let n = c.loop-report.files_done in
    let file : option_copied c.get.result ≡ slice_get xs n = looked_up xs n c.get.result c.get.ensures.lookup in
    let snap : c.unacked.result ≡ slice_get us (length rs - n) = rw c.len.ensures at c.unacked.ensures.value in
    let is : first_report c.args.ino (slice_get xs n) (slice_get us (length rs - n)) ≡ Some c.in-Some.report =
    rw (file, snap) at (sym c.first_report.ensures ∙ c.in-Some.is) in
    let grown = c.in_ok-push.ensures.ok in
    let r = c.in-Some.report in
    elim c.if-not-report.branch [
      | then-not-report w ↦ rw w.files_done-is (one_more_file c.args.ino xs us rs c.push.new.self r n i is (of_file r.snap w.if-not-report.true) grown)
      | else-not-report w ↦ rw w.files_done-is (one_more_snap c.args.ino xs us rs c.push.new.self r n i is (of_snap r.snap w.if-not-report.false) grown)
    ]
  where
    of_file : (b : Bool) → not b ≡ true → b ≡ false
    of_file true e = absurd cc
    of_file false e = refl

    of_snap : (b : Bool) → not b ≡ false → b ≡ true
    of_snap true e = refl
    of_snap false e = absurd cc

pub returns : goal.returns
returns c =
    let xs = c.args.files.now in
    let us = unacked c.args.snaps.now in
    let rs = c.loop-report.reports in
    let n = c.loop-report.files_done in
    let file : option_copied c.get.result ≡ slice_get xs n = looked_up xs n c.get.result c.get.ensures.lookup in
    let snap : c.unacked.result ≡ slice_get us (length rs - n) = rw c.len.ensures at c.unacked.ensures.value in
    let is : first_report c.args.ino (slice_get xs n) (slice_get us (length rs - n)) ≡ None =
    rw (file, snap) at (sym c.first_report.ensures ∙ c.in_default.is) in
    all_made c.args.ino xs us rs n c.loop-report.invariant is c.requires.rising c.unacked.ensures.order
    (all_untold xs c.args.snaps.now c.requires.apart)
