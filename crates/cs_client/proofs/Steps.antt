-- What a step of a file makes of the table of files.
use Rattle.std.proofs.Common.{◌≡◌, ◌∙◌, refl, ap, ℕ, ◌&&◌, not, Bool, true, false, cond, Option, Some, None}
use Rattle.std.specs.BTreeMap.{get}
use Rattle.std.specs.Ordering.{nat_cmp}
use Rattle.std.specs.Option.{option_map}
use Rattle.cs_flush.specs.declared.sent.Sent.{Sent}
use Rattle.cs_caps.specs.declared.client.Done.{Done}
use Rattle.cs_caps.specs.declared.client.Done.TheVariants as done
use Rattle.cs_caps.specs.Client.{completed}
use Rattle.cs_capsnap.specs.declared.snap.CapSnap.{CapSnap}
use Rattle.cs_capsnap.specs.CapSnaps as snaps
use Rattle.cs_flush.specs.Flushes as flushes
use Rattle.cs_inode.specs.declared.answers.FlushStep.{FlushStep}
use Rattle.cs_inode.specs.declared.answers.FlushStep.TheVariants as flush
use Rattle.cs_inode.specs.declared.answers.SnapStep.{SnapStep}
use Rattle.cs_inode.specs.declared.answers.SnapStep.TheVariants as snap
use Rattle.cs_inode.specs.Answers.{flush_answer, flush_snaps_answer, flush_snaps_answer_of}
use Rattle.cs_inode.specs.Calls.{acked}
use Rattle.cs_inode.specs.Inodes.{FileInode, after_flush, after_flush_snaps, is_dirty}
use Rattle.cs_client.specs.declared.file.ClientFile.{ClientFile}
use Rattle.cs_client.specs.Rows.{done_row, flush_row, snap_row}
use Rattle.cs_client.specs.Views.{Files}
use Rattle.cs_client.proofs.Puts.{Puts, put_at, put_same}

pub done_rows : (old new : Files) (g : ℕ) (r : ClientFile) (i : FileInode) (d : Done) → Puts old new g r i
    → i ≡ record r.inode { caps = completed r.inode.caps d }
    → (f : ℕ) → get nat_cmp new f ≡ done_row g (Some d) f (get nat_cmp old f)
done_rows old new g r i (done.Ack seq bits) put is = put_at old new g r i (acked seq bits) put is
done_rows old new g r i (done.Hold bits) put is = put_same old new g r i put is
done_rows old new g r i done.Nothing put is = put_same old new g r i put is

-- Flushes

-- what the file says, and what becomes of it
pub data FlushIs (tid : ℕ) (i : FileInode) : FlushStep → Type 0 where
  waits : after_flush tid i ≡ i → FlushIs tid i flush.Snap
  clean : after_flush tid i ≡ i → FlushIs tid i flush.Clean
  sent : FlushIs tid i (flush.Sent (record { tid = tid; follows = i.context.seq; meta = i.meta }))

flush_at : (tid : ℕ) (i : FileInode) (writing dirty : Bool) → snaps.is_writing i.snaps ≡ writing → is_dirty i ≡ dirty
    → FlushIs tid i (cond writing flush.Snap (cond dirty (flush.Sent (record { tid = tid; follows = i.context.seq; meta = i.meta })) flush.Clean))
flush_at tid i true dirty w d = waits (rw w refl)
flush_at tid i false true w d = sent
flush_at tid i false false w d = clean (rw (w, d) refl)

pub flush_is : (tid : ℕ) (i : FileInode) → FlushIs tid i (flush_answer tid i)
flush_is tid i = flush_at tid i (snaps.is_writing i.snaps) (is_dirty i) refl refl

flush_rows_of : (old new : Files) (g : ℕ) (r : ClientFile) (i : FileInode) (tid : ℕ) (x : FlushStep) → FlushIs tid r.inode x → Puts old new g r i
    → i ≡ after_flush tid r.inode → (f : ℕ) → get nat_cmp new f ≡ flush_row g (Some x) f (get nat_cmp old f)
flush_rows_of old new g r i tid _ (waits same) put is = put_same old new g r i put (is ∙ same)
flush_rows_of old new g r i tid _ (clean same) put is = put_same old new g r i put (is ∙ same)
flush_rows_of old new g r i tid _ sent put is = put_at old new g r i (after_flush tid) put is

pub flush_rows : (old new : Files) (g : ℕ) (r : ClientFile) (i : FileInode) (tid : ℕ) (x : FlushStep) → x ≡ flush_answer tid r.inode → Puts old new g r i
    → i ≡ after_flush tid r.inode → (f : ℕ) → get nat_cmp new f ≡ flush_row g (Some x) f (get nat_cmp old f)
flush_rows old new g r i tid x said put is = rw said (flush_rows_of old new g r i tid (flush_answer tid r.inode) (flush_is tid r.inode) put is)

context_flushed_at : (b : Bool) (tid : ℕ) (i j : FileInode) → j ≡ cond b (record i { flushes = flushes.started tid i.context.seq i.meta i.flushes }) i
    → j.context ≡ i.context
context_flushed_at true tid i j is = ap (λ (k : FileInode). k.context) is
context_flushed_at false tid i j is = ap (λ (k : FileInode). k.context) is

pub context_flushed : (tid : ℕ) (i j : FileInode) → j ≡ after_flush tid i → j.context ≡ i.context
context_flushed tid i j is = context_flushed_at (not (snaps.is_writing i.snaps) && is_dirty i) tid i j is

-- Flushes of cap snaps

snap_rows_at : (old new : Files) (g : ℕ) (r : ClientFile) (i : FileInode) (tid : ℕ) (o : Option CapSnap) → snaps.first_unsent r.inode.snaps ≡ o
    → Puts old new g r i
    → i ≡ after_flush_snaps tid r.inode → (f : ℕ) → get nat_cmp new f ≡ snap_row g (Some (flush_snaps_answer_of tid o)) f (get nat_cmp old f)
snap_rows_at old new g r i tid None none put is = put_same old new g r i put (is ∙ rw none refl)
snap_rows_at old new g r i tid (Some x) first put is = at x.writing refl
  where
    at : (b : Bool) → x.writing ≡ b → (f : ℕ)
        → get nat_cmp new f ≡ snap_row g (Some (cond b snap.Writing (snap.Sent (record { tid = tid; follows = snaps.follows x; meta = x.meta })))) f
        (get nat_cmp old f)
    at true writing = put_same old new g r i put (is ∙ rw (first, writing) refl)
    at false not_writing = put_at old new g r i (after_flush_snaps tid) put is

pub snap_rows : (old new : Files) (g : ℕ) (r : ClientFile) (i : FileInode) (tid : ℕ) (x : SnapStep) → x ≡ flush_snaps_answer tid r.inode → Puts old new g r i
    → i ≡ after_flush_snaps tid r.inode → (f : ℕ) → get nat_cmp new f ≡ snap_row g (Some x) f (get nat_cmp old f)
snap_rows old new g r i tid x said put is = rw said (snap_rows_at old new g r i tid (snaps.first_unsent r.inode.snaps) refl put is)

context_snap_flushed_at : (b : Bool) (tid : ℕ) (i j : FileInode) → j ≡ cond b (record i { snaps = snaps.with_first_sent tid i.snaps }) i → j.context ≡ i.context
context_snap_flushed_at true tid i j is = ap (λ (k : FileInode). k.context) is
context_snap_flushed_at false tid i j is = ap (λ (k : FileInode). k.context) is

pub context_snap_flushed : (tid : ℕ) (i j : FileInode) → j ≡ after_flush_snaps tid i → j.context ≡ i.context
context_snap_flushed tid i j is = context_snap_flushed_at (snaps.can_send i.snaps) tid i j is

-- What is sent has the number that was drawn

tid_of_flush : (tid : ℕ) (i : FileInode) (y : FlushStep) (x : Sent) → FlushIs tid i y → flush.Sent x ≡ y → x.tid ≡ tid
tid_of_flush tid i _ x (waits same) e = absurd (cc)
tid_of_flush tid i _ x (clean same) e = absurd (cc)
tid_of_flush tid i _ x sent e = cc

pub sent_tid : (tid : ℕ) (row : Option ClientFile) (x : Sent) (s : Option FlushStep) → s ≡ option_map (λ r. flush_answer tid r.inode) row
    → s ≡ Some (flush.Sent x) → x.tid ≡ tid
sent_tid tid None x s said is = absurd (cc)
sent_tid tid (Some r) x s said is = let here : flush.Sent x ≡ flush_answer tid r.inode = cc in tid_of_flush tid r.inode (flush_answer tid r.inode) x
    (flush_is tid r.inode) here

tid_of_snap : (tid : ℕ) (o : Option CapSnap) (x : Sent) → snap.Sent x ≡ flush_snaps_answer_of tid o → x.tid ≡ tid
tid_of_snap tid None x e = absurd (cc)
tid_of_snap tid (Some y) x e = at y.writing e
  where
    at : (b : Bool) → snap.Sent x ≡ cond b snap.Writing (snap.Sent (record { tid = tid; follows = snaps.follows y; meta = y.meta })) → x.tid ≡ tid
    at true e = absurd (cc)
    at false e = cc

pub snap_sent_tid : (tid : ℕ) (row : Option ClientFile) (x : Sent) (s : Option SnapStep) → s ≡ option_map (λ r. flush_snaps_answer tid r.inode) row
    → s ≡ Some (snap.Sent x)
    → x.tid ≡ tid
snap_sent_tid tid None x s said is = absurd (cc)
snap_sent_tid tid (Some r) x s said is =
    let here : snap.Sent x ≡ flush_snaps_answer tid r.inode = cc in tid_of_snap tid (snaps.first_unsent r.inode.snaps) x here
