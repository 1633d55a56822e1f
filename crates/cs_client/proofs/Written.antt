-- Writes and reads end where a file may end.
use Rattle.std.proofs.Common.{◌≡◌, ℕ, ◌+◌, ◌≤◌, ◌&&◌, true, List, length, nat_le, All, arith}
use Rattle.std.proofs.lemmas.Bool.{and_parts}
use Rattle.std.proofs.lemmas.Bool.Decides.{nat_tests}
use Rattle.cs_inode.specs.Inodes.{FileInode, context_under, write_operations}
use Rattle.cs_inode.proofs.Pieces.{operations_fit}
use Rattle.cs_laws.specs.Fits.{greatest_end, is_write, most_written}
use Rattle.cs_objstore.specs.Files.{FitsObject}

pub write_ends : (off : ℕ) (bytes : List ℕ) → is_write off bytes ≡ true → off + length bytes ≤ greatest_end
write_ends off bytes fit =
    let parts = and_parts (nat_le 1 (length bytes) && nat_le (length bytes) most_written) (nat_le (off + length bytes) greatest_end) fit in
    grind (arith, nat_tests, parts.1)

-- the operations of a write fit into their objects
pub fitting : (tid off : ℕ) (bytes : List ℕ) (i : FileInode) → All FitsObject (write_operations tid off bytes i)
fitting tid off bytes i = operations_fit tid i.ino off bytes (context_under i)
