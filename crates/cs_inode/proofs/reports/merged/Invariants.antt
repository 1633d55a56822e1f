use Rattle.std.proofs.Common.{◌+◌, ◌-◌, length}
use Rattle.cs_capsnap.specs.CapSnaps.{unacked}
use Rattle.cs_inode.proofs.Merging.{IsUnderway}
use Rattle.cs_inode.proofs.reports.merged.Given as goal

abbrev pub decreases-loop-report : goal.decreases-loop-report
decreases-loop-report l = (length l.files + length (unacked l.snaps)) - length l.reports

abbrev pub invariant-loop-report : goal.invariant-loop-report
invariant-loop-report l = IsUnderway l.ino l.files (unacked l.snaps) l.reports l.files_done
