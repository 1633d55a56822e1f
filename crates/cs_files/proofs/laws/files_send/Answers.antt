use Rattle.cs_files.proofs.Flushes.{flush_sends, flush_snaps_sends, tids_drawn}
use Rattle.cs_files.proofs.laws.files_send.Goals as goal

pub returns : goal.returns
returns c p h run = record { present = flush_sends p h run; snaps = flush_snaps_sends p h run; drawn = tids_drawn p h run }
