-- What a file's calls leave of what always holds of it.
use Rattle.std.proofs.Common.{◌≡◌, ◌∙◌, refl, sym, ap, subst, ℕ, ◌≤◌, ◌<◌, ◌&&◌, not, Bool, true, false, cond, List, arith}
use Rattle.cs_parts.specs.declared.capabilities.ClientCaps.{ClientCaps}
use Rattle.cs_capsnap.proofs.Changes.{greatest_left, greatest_push, greatest_sent}
use Rattle.cs_capsnap.specs.declared.snap.CapSnap.{CapSnap}
use Rattle.cs_capsnap.specs.CapSnaps as snaps
use Rattle.cs_flush.proofs.Rising.{greatest_acked, greatest_started}
use Rattle.cs_flush.specs.Flushes as flushes
use Rattle.cs_inode.specs.declared.answers.ChmodStep.TheVariants as chmod
use Rattle.cs_inode.specs.Answers.{chmod_answer}
use Rattle.cs_inode.specs.Calls.{with_context_at}
use Rattle.cs_inode.specs.Inodes.{FileInode, after_ack, after_chmod, after_flush, after_flush_snaps, is_dirty, needs_snap, with_context, with_mode, written}
use Rattle.cs_laws.specs.Context.{differs}
use Rattle.cs_laws.specs.Fits.{greatest_end}
use Rattle.cs_parts.specs.declared.references.Live.{Live}
use Rattle.cs_snapctx.specs.Context.{Context}
use Rattle.cs_client.specs.Views.{IsLike, IsRow}

pub like_self : (i : FileInode) → IsLike i i
like_self i = record { ino = refl; writers = refl; tids = omega arith; size = λ small. small }

pub like_caps : (i j : FileInode) (c : ClientCaps) → j ≡ record i { caps = c } → IsLike i j
like_caps i j c is = subst (λ k. IsLike i k) (sym is) (record { ino = refl; writers = refl; tids = omega arith; size = λ small. small })

pub like_context : (i j : FileInode) (c : Context) → j ≡ record i { context = c } → IsLike i j
like_context i j c is = subst (λ k. IsLike i k) (sym is) (record { ino = refl; writers = refl; tids = omega arith; size = λ small. small })

pub like_written : (end time : ℕ) (i j : FileInode) → end ≤ greatest_end → j ≡ written end time i → IsLike i j
like_written end time i j small is =
    subst (λ k. IsLike i k) (sym is) (record { ino = refl; writers = refl; tids = omega arith; size = λ before. omega (arith, before, small) })

pub written_context : (end time : ℕ) (i j : FileInode) → j ≡ written end time i → j.context ≡ i.context
written_context end time i j is = ap (λ (k : FileInode). k.context) is

-- Modes

mode_at : (b : Bool) (mode : ℕ) (i : FileInode) → IsLike i (cond b i (with_mode mode i))
mode_at true mode i = like_self i
mode_at false mode i = record { ino = refl; writers = refl; tids = omega arith; size = λ small. small }

pub like_mode : (mode : ℕ) (i j : FileInode) → j ≡ after_chmod mode i → IsLike i j
like_mode mode i j is = subst (λ k. IsLike i k) (sym is) (mode_at (snaps.is_writing i.snaps) mode i)

mode_context_at : (b : Bool) (mode : ℕ) (i k : FileInode) → k ≡ cond b i (with_mode mode i) → k.context ≡ i.context
mode_context_at true mode i k is = ap (λ (x : FileInode). x.context) is
mode_context_at false mode i k is = ap (λ (x : FileInode). x.context) is

pub mode_context : (mode : ℕ) (i j : FileInode) → j ≡ after_chmod mode i → j.context ≡ i.context
mode_context mode i j is = mode_context_at (snaps.is_writing i.snaps) mode i j is

mode_kept_at : (b : Bool) (mode : ℕ) (i : FileInode) → chmod.Snap ≡ cond b chmod.Snap chmod.Done → cond b i (with_mode mode i) ≡ i
mode_kept_at true mode i e = refl
mode_kept_at false mode i e = absurd (cc)

-- a mode that isn't set leaves the file as it is
pub mode_kept : (mode : ℕ) (i j : FileInode) → chmod.Snap ≡ chmod_answer i → j ≡ after_chmod mode i → j ≡ i
mode_kept mode i j said is = is ∙ mode_kept_at (snaps.is_writing i.snaps) mode i said

-- Acknowledgements

pub like_ack : (tid : ℕ) (i j : FileInode) → j ≡ after_ack tid i → IsLike i j
like_ack tid i j is =
    let first = greatest_acked tid i.flushes.unacked in
    let second = greatest_left i.snaps tid in
    subst (λ k. IsLike i k) (sym is) (record { ino = refl; writers = refl; tids = omega (arith, first, second); size = λ small. small })

-- Contexts

with_context_like : (c : Context) (b : Bool) (queue : List CapSnap) (i : FileInode) → snaps.greatest_tid queue ≡ snaps.greatest_tid i.snaps
    → IsLike i (record i { context = c; snaps = cond b queue i.snaps })
with_context_like c true queue i same = record { ino = refl; writers = refl; tids = omega (arith, same); size = λ small. small }
with_context_like c false queue i same = record { ino = refl; writers = refl; tids = omega arith; size = λ small. small }

like_new_context : (c : Context) (i : FileInode) → IsLike i (with_context c i)
like_new_context c i = with_context_like c (needs_snap i) _ i (greatest_push i.snaps _ refl)

told_at : (b : Bool) (c : Context) (i : FileInode) → IsLike i (cond b (with_context c i) i)
told_at true c i = like_new_context c i
told_at false c i = like_self i

pub like_told : (c : Context) (i j : FileInode) → j ≡ with_context_at c i → IsLike i j
like_told c i j is = subst (λ k. IsLike i k) (sym is) (told_at (differs i.context c) c i)

pub like_with_context : (c : Context) (i j : FileInode) → j ≡ with_context c i → IsLike i j
like_with_context c i j is = subst (λ k. IsLike i k) (sym is) (like_new_context c i)

-- Flushes

flushed_at : (b : Bool) (rs : List Live) (sent tid f : ℕ) (i : FileInode) → sent < tid → IsRow rs sent f i
    → IsRow rs tid f (cond b (record i { flushes = flushes.started tid i.context.seq i.meta i.flushes }) i)
flushed_at true rs sent tid f i more row = record {
  ino = row.ino;
  writers = row.writers;
  tids = omega (arith, greatest_started i.flushes.unacked (record { tid = tid; follows = i.context.seq; meta = i.meta }), row.tids, more);
  size = row.size;
}
flushed_at false rs sent tid f i more row = record { ino = row.ino; writers = row.writers; tids = omega (arith, row.tids, more); size = row.size }

pub flushed_row_holds : (rs : List Live) (sent tid f : ℕ) (i : FileInode) → sent < tid → IsRow rs sent f i → IsRow rs tid f (after_flush tid i)
flushed_row_holds rs sent tid f i more row = flushed_at (not (snaps.is_writing i.snaps) && is_dirty i) rs sent tid f i more row

snap_flushed_at : (b : Bool) (rs : List Live) (sent tid f : ℕ) (i : FileInode) → sent < tid → IsRow rs sent f i
    → IsRow rs tid f (cond b (record i { snaps = snaps.with_first_sent tid i.snaps }) i)
snap_flushed_at true rs sent tid f i more row = record {
  ino = row.ino;
  writers = row.writers;
  tids = omega (arith, greatest_sent i.snaps tid, row.tids, more);
  size = row.size;
}
snap_flushed_at false rs sent tid f i more row = record { ino = row.ino; writers = row.writers; tids = omega (arith, row.tids, more); size = row.size }

pub snap_flushed_row_holds : (rs : List Live) (sent tid f : ℕ) (i : FileInode) → sent < tid → IsRow rs sent f i → IsRow rs tid f (after_flush_snaps tid i)
snap_flushed_row_holds rs sent tid f i more row = snap_flushed_at (snaps.can_send i.snaps) rs sent tid f i more row
