use Rattle.cs_inode.proofs.inode.Inode.TheSendSync as inode
use Rattle.cs_inode.proofs.answers.WriteStep.TheSendSync as write_step
use Rattle.cs_inode.proofs.laws.values_may_cross_threads.Goals as goal

pub returns-clause-files : goal.returns-clause-files
returns-clause-files c = inode.the_send

pub returns-clause-answers : goal.returns-clause-answers
returns-clause-answers c = write_step.the_send
