use Rattle.std.proofs.Common.{◌≡◌, ◌∙◌, false, is_some, slice_get, rules}
use Rattle.cs_capsnap.specs.CapSnaps.{first_follows, unacked}
use Rattle.cs_inode.proofs.Queues.{unsent_or_sent}
use Rattle.cs_inode.proofs.inode.has_any.Goals as goal

pub returns-else-is_some : goal.returns-else-is_some
returns-else-is_some c =
    let xs = c.args.snaps.now in
    let none : is_some (first_follows xs) ≡ false = search rules in
    let sent : c.is_some-else-is_some.result ≡ is_some (slice_get (unacked xs) 0) = search rules in
    sent ∙ (rw none at (unsent_or_sent xs))
