-- The flushes of a file that are sent again after a reconnect.
use Rattle.std.specs.Prelude.{◌≡◌, ℕ, ◌<◌, true, false, not, Option, Some, None, List, filter, map, nat_lt, AllPairs, if◌then◌else◌}
use Rattle.cs_ids.specs.declared.objects.FileMeta.{FileMeta}
use Rattle.cs_capsnap.specs.CapSnaps.{unacked}
use Rattle.cs_flush.specs.declared.report.FlushReport.{FlushReport}
use Rattle.cs_flush.specs.declared.sent.Sent.{Sent}
use Rattle.cs_inode.specs.Inodes.{FileInode}

-- the report of a flush of a file, and of one of a cap snap
abbrev pub file_report : ℕ → Sent → FlushReport
file_report ino x = record { ino = ino; sent = x; snap = false }

abbrev pub snap_report : ℕ → (ℕ × ℕ × FileMeta) → FlushReport
snap_report ino u = record { ino = ino; sent = record { tid = u.0; follows = u.1; meta = u.2 }; snap = true }

-- the reports are those of these flushes of a file and of its cap snaps, together, and their numbers rise
pub record AreReports (ino : ℕ) (files : List Sent) (snaps : List (ℕ × ℕ × FileMeta)) (rs : List FlushReport) : Type 0 where
  pub of_files : filter (λ r. not r.snap) rs ≡ map (file_report ino) files
  pub of_snaps : filter (λ r. r.snap) rs ≡ map (snap_report ino) snaps
  pub order : AllPairs (λ a b. a.sent.tid < b.sent.tid) rs

-- all of a file's
abbrev pub ReportsUnacked : FileInode → List FlushReport → Type 0
ReportsUnacked i rs = AreReports i.ino i.flushes.unacked (unacked i.snaps) rs

-- the report of the lesser number, of the next flush of a file and the next one of a cap snap
abbrev pub first_report : ℕ → Option Sent → Option (ℕ × ℕ × FileMeta) → Option FlushReport
first_report ino None None = None
first_report ino (Some x) None = Some (file_report ino x)
first_report ino None (Some u) = Some (snap_report ino u)
first_report ino (Some x) (Some u) = if nat_lt u.0 x.tid then Some (snap_report ino u) else Some (file_report ino x)
