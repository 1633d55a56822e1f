-- What the numbers of flushes are, where one is drawn.
use Rattle.std.proofs.Common.{◌≡◌, ◌∙◌, subst, ℕ, ◌+◌, List, Option, Some, arith}
use Rattle.std.specs.BTreeMap.{get}
use Rattle.std.specs.Option.{option_map}
use Rattle.std.specs.Ordering.{nat_cmp}
use Rattle.cs_flush.specs.declared.sent.Sent.{Sent}
use Rattle.cs_inode.specs.declared.answers.FlushStep.{FlushStep}
use Rattle.cs_inode.specs.declared.answers.FlushStep.TheVariants as flush
use Rattle.cs_inode.specs.declared.answers.SnapStep.{SnapStep}
use Rattle.cs_inode.specs.declared.answers.SnapStep.TheVariants as snap
use Rattle.cs_inode.specs.Answers.{flush_answer, flush_snaps_answer}
use Rattle.cs_inode.specs.Inodes.{after_flush, after_flush_snaps}
use Rattle.cs_parts.specs.declared.references.Live.{Live}
use Rattle.cs_client.specs.declared.file.ClientFile.{ClientFile}
use Rattle.cs_client.specs.Rows.{at_file, flush_row, snap_row}
use Rattle.cs_client.specs.Views.{AreDrawn, AreTables, Files, IsDrawnBelow}
use Rattle.cs_client.proofs.Likes.{flushed_row_holds, snap_flushed_row_holds}
use Rattle.cs_client.proofs.Puts.{at_rows, same_tables}
use Rattle.cs_client.proofs.Steps.{sent_tid, snap_sent_tid}

-- the next number is above all that were drawn
pub drawn_below : (files : Files) (sent tid : ℕ) → AreDrawn files sent → tid ≡ sent + 1 → IsDrawnBelow tid files
drawn_below files sent tid drawn is f r has = omega (arith, drawn f r has, is)

pub flushed_tables : (old new : Files) (g sent tid drawn : ℕ) → ((f : ℕ) → get nat_cmp new f ≡ at_file g (after_flush tid) f (get nat_cmp old f))
    → tid ≡ sent + 1 → drawn ≡ sent + 1
    → (rs : List Live) → AreTables old rs sent → AreTables new rs drawn
flushed_tables old new g sent tid drawn rows is count rs t =
    rw (count, ← is) (at_rows old new g (after_flush tid) rs sent tid rows (omega (arith, is))
    (λ i row. flushed_row_holds rs sent tid g i (omega (arith, is)) row) t)

pub snap_flushed_tables : (old new : Files) (g sent tid drawn : ℕ)
    → ((f : ℕ) → get nat_cmp new f ≡ at_file g (after_flush_snaps tid) f (get nat_cmp old f)) → tid ≡ sent + 1 → drawn ≡ sent + 1
    → (rs : List Live) → AreTables old rs sent → AreTables new rs drawn
snap_flushed_tables old new g sent tid drawn rows is count rs t =
    rw (count, ← is) (at_rows old new g (after_flush_snaps tid) rs sent tid rows (omega (arith, is))
    (λ i row. snap_flushed_row_holds rs sent tid g i (omega (arith, is)) row) t)

-- a flush that is refused leaves the rows, and one that is sent draws a number

pub flush_unsent : (old new : Files) (g : ℕ) (s : Option FlushStep) → ((f : ℕ) → get nat_cmp new f ≡ flush_row g s f (get nat_cmp old f))
    → ((f : ℕ) (row : Option ClientFile) → flush_row g s f row ≡ row) → (rs : List Live) (sent : ℕ) → AreTables old rs sent → AreTables new rs sent
flush_unsent old new g s rows same = same_tables old new (λ f. rows f ∙ same f (get nat_cmp old f))

pub flush_sent_tables : (old new : Files) (g tid sent drawn : ℕ) (s : Option FlushStep) (x : Sent)
    → ((f : ℕ) → get nat_cmp new f ≡ flush_row g s f (get nat_cmp old f))
    → s ≡ option_map (λ r. flush_answer tid r.inode) (get nat_cmp old g) → s ≡ Some (flush.Sent x) → tid ≡ sent + 1 → drawn ≡ sent + 1
    → (rs : List Live) → AreTables old rs sent → AreTables new rs drawn
flush_sent_tables old new g tid sent drawn s x rows said is next count =
    flushed_tables old new g sent x.tid drawn (subst (λ s. (f : ℕ) → get nat_cmp new f ≡ flush_row g s f (get nat_cmp old f)) is rows)
    (sent_tid tid (get nat_cmp old g) x s said is ∙ next) count

pub snap_unsent : (old new : Files) (g : ℕ) (s : Option SnapStep) → ((f : ℕ) → get nat_cmp new f ≡ snap_row g s f (get nat_cmp old f))
    → ((f : ℕ) (row : Option ClientFile) → snap_row g s f row ≡ row) → (rs : List Live) (sent : ℕ) → AreTables old rs sent → AreTables new rs sent
snap_unsent old new g s rows same = same_tables old new (λ f. rows f ∙ same f (get nat_cmp old f))

pub snap_sent_tables : (old new : Files) (g tid sent drawn : ℕ) (s : Option SnapStep) (x : Sent)
    → ((f : ℕ) → get nat_cmp new f ≡ snap_row g s f (get nat_cmp old f))
    → s ≡ option_map (λ r. flush_snaps_answer tid r.inode) (get nat_cmp old g) → s ≡ Some (snap.Sent x) → tid ≡ sent + 1 → drawn ≡ sent + 1
    → (rs : List Live) → AreTables old rs sent → AreTables new rs drawn
snap_sent_tables old new g tid sent drawn s x rows said is next count =
    snap_flushed_tables old new g sent x.tid drawn (subst (λ s. (f : ℕ) → get nat_cmp new f ≡ snap_row g s f (get nat_cmp old f)) is rows)
    (snap_sent_tid tid (get nat_cmp old g) x s said is ∙ next) count
