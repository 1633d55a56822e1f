use Rattle.cs_tree.proofs.directories.Directories.TheSendSync as directories
use Rattle.cs_tree.proofs.directories.Directory.TheSendSync as directory
use Rattle.cs_tree.proofs.path.DirPath.TheSendSync as dir_path
use Rattle.cs_tree.proofs.laws.values_may_cross_threads.Goals as goal

pub returns-clause-directories : goal.returns-clause-directories
returns-clause-directories c = (directories.the_send, directory.the_send)

pub returns-clause-paths : goal.returns-clause-paths
returns-clause-paths c = dir_path.the_send
