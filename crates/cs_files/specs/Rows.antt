-- What the client keeps of a file, by the history.
use Rattle.std.specs.Prelude.{ℕ, List, count_by}
use Rattle.cs_parts.specs.declared.references.Live.{Live}
use Rattle.cs_parts.specs.References.{is_writer_of}
use Rattle.cs_inode.specs.Inodes.{FileInode}
use Rattle.cs_laws.specs.declared.answers.Entry.{Entry}
use Rattle.cs_laws.specs.Flushes.{written_meta}
use Rattle.cs_laws.specs.History.{client, context, dirty, live, mode, writes}
use Rattle.cs_theorems.specs.Queues.{snaps}
use Rattle.cs_theorems.specs.Unacked.{unacked}

-- how many of these references may write to the file
abbrev pub writers_of : ℕ → List Live → ℕ
writers_of f rs = count_by (is_writer_of f) rs

abbrev pub inode : List Entry → ℕ → FileInode
inode h f = record {
  ino = f;
  context = context h f;
  caps = client h f;
  snaps = snaps h f;
  flushes = record { dirty = dirty h f; unacked = unacked h f };
  meta = written_meta (mode h f) (writes h f);
  writers = writers_of f (live h);
}
