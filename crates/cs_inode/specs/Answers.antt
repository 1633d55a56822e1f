-- What a file answers, by tests in the order in which they are made.
use Rattle.std.specs.Prelude.{ℕ, ◌&&◌, Bool, true, false, Option, Some, None, nat_lt, if◌then◌else◌}
use Rattle.cs_bits.specs.declared.Caps.{Caps}
use Rattle.cs_bits.specs.Bits.{covers}
use Rattle.cs_caps.specs.declared.client.Done.{Done}
use Rattle.cs_caps.specs.declared.client.Done.TheVariants as done
use Rattle.cs_caps.specs.Client.{completion}
use Rattle.cs_capsnap.specs.declared.snap.CapSnap.{CapSnap}
use Rattle.cs_capsnap.specs.CapSnaps.{first_unsent, follows, is_writing}
use Rattle.cs_laws.specs.Answers.{may_write}
use Rattle.cs_inode.specs.declared.answers.Allow.{Allow}
use Rattle.cs_inode.specs.declared.answers.Allow.TheVariants as allow
use Rattle.cs_inode.specs.declared.answers.ChmodStep.{ChmodStep}
use Rattle.cs_inode.specs.declared.answers.ChmodStep.TheVariants as chmod
use Rattle.cs_inode.specs.declared.answers.FlushStep.{FlushStep}
use Rattle.cs_inode.specs.declared.answers.FlushStep.TheVariants as flush
use Rattle.cs_inode.specs.declared.answers.SnapStep.{SnapStep}
use Rattle.cs_inode.specs.declared.answers.SnapStep.TheVariants as snap
use Rattle.cs_inode.specs.Inodes.{FileInode, is_dirty, used}

-- may a reference to these bits begin, that writes up to an end
abbrev pub allowance : Caps → ℕ → FileInode → Allow
allowance bits end i =
    if covers i.caps.issued bits then
    (if may_write bits && is_writing i.snaps then allow.Snap
    else if may_write bits && nat_lt i.caps.max end then allow.Max
    else allow.Yes i.context.seq)
    else allow.NoCaps

abbrev pub chmod_answer : FileInode → ChmodStep
chmod_answer i = if is_writing i.snaps then chmod.Snap else chmod.Done

-- what the client does about what it has not acknowledged, where these are the bits of the live references
abbrev pub check_answer : Caps → FileInode → Done
check_answer refs i = completion i.caps (used refs i)

abbrev pub is_hold : Done → Bool
is_hold (done.Hold bits) = true
is_hold (done.Ack seq bits) = false
is_hold done.Nothing = false

-- the present metadata, under the present context
abbrev pub flush_answer : ℕ → FileInode → FlushStep
flush_answer tid i =
    if is_writing i.snaps then flush.Snap
    else if is_dirty i then flush.Sent (record { tid = tid; follows = i.context.seq; meta = i.meta })
    else flush.Clean

-- by the first unsent cap snap
abbrev pub flush_snaps_answer_of : ℕ → Option CapSnap → SnapStep
flush_snaps_answer_of tid None = snap.None
flush_snaps_answer_of tid (Some x) =
    if x.writing then snap.Writing else snap.Sent (record { tid = tid; follows = follows x; meta = x.meta })

abbrev pub flush_snaps_answer : ℕ → FileInode → SnapStep
flush_snaps_answer tid i = flush_snaps_answer_of tid (first_unsent i.snaps)

abbrev pub is_wait : SnapStep → Bool
is_wait snap.Writing = true
is_wait snap.None = false
is_wait (snap.Sent sent) = false
