-- The answers to calls by what a file says.
use Rattle.std.specs.Prelude.{ℕ, ◌+◌, ◌-◌, min, nat_le, if◌then◌else◌}
use Rattle.cs_caps.specs.declared.client.Done.{Done}
use Rattle.cs_caps.specs.declared.client.Done.TheVariants as done
use Rattle.cs_inode.specs.declared.answers.Allow.{Allow}
use Rattle.cs_inode.specs.declared.answers.Allow.TheVariants as allow
use Rattle.cs_inode.specs.declared.answers.ChmodStep.{ChmodStep}
use Rattle.cs_inode.specs.declared.answers.ChmodStep.TheVariants as chmod
use Rattle.cs_inode.specs.declared.answers.FlushStep.{FlushStep}
use Rattle.cs_inode.specs.declared.answers.FlushStep.TheVariants as flush
use Rattle.cs_inode.specs.declared.answers.SnapStep.{SnapStep}
use Rattle.cs_inode.specs.declared.answers.SnapStep.TheVariants as snap
use Rattle.cs_laws.specs.declared.answers.Answer.{Answer}
use Rattle.cs_laws.specs.declared.answers.Answer.TheVariants as answers
use Rattle.cs_laws.specs.declared.answers.Why.TheVariants as why

-- where the file allows a reference, the table of references decides; count: how many live, begun: how many the caller has begun
abbrev pub begun_said : ℕ → ℕ → Allow → Answer
begun_said count begun allow.NoCaps = answers.Again why.Caps
begun_said count begun allow.Snap = answers.Again why.Snap
begun_said count begun allow.Max = answers.Again why.Max
begun_said count begun (allow.Yes tag) = if nat_le 256 count then answers.Full else answers.Ref (begun + 1)

abbrev pub chmod_said : ChmodStep → Answer
chmod_said chmod.Done = answers.Done
chmod_said chmod.Snap = answers.Again why.Snap

abbrev pub check_said : Done → Answer
check_said done.Nothing = answers.Nothing
check_said (done.Hold bits) = answers.Hold bits
check_said (done.Ack seq bits) = answers.Ack seq bits

abbrev pub flush_said : FlushStep → Answer
flush_said flush.Snap = answers.Again why.Snap
flush_said flush.Clean = answers.Clean
flush_said (flush.Sent x) = answers.Flush x.tid

abbrev pub snap_said : SnapStep → Answer
snap_said snap.None = answers.NoneQueued
snap_said snap.Writing = answers.Writing
snap_said (snap.Sent x) = answers.FlushSnap x.tid x.follows

-- how many bytes from an offset on, and no more than asked for, a file of this size has
abbrev pub shown_count : ℕ → ℕ → ℕ → ℕ
shown_count size off len = min len (size - off)
