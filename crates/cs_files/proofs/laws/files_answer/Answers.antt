use Rattle.cs_theorems.proofs.QueueAnswers.{queue_writing}
use Rattle.cs_files.proofs.Begins.{begin_said}
use Rattle.cs_files.proofs.Checks.{check_is}
use Rattle.cs_files.proofs.Chmods.{chmod_is}
use Rattle.cs_files.proofs.Flushes.{flush_is, flush_snaps_is}
use Rattle.cs_files.proofs.laws.files_answer.Goals as goal

pub returns : goal.returns
returns c p h run = record {
  writing = queue_writing p h run;
  begin = begin_said p h run;
  chmod = chmod_is p h run;
  check = check_is h;
  flush = flush_is p h run;
  flush_snaps = flush_snaps_is p h run;
}
