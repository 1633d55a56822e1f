use Rattle.std.proofs.Common.{length}
use Rattle.cs_geom.specs.declared.places.TheConstants.{OBJECT_SIZE}
use Rattle.cs_geom.specs.Cuts.{pieces_of}
use Rattle.cs_inode.specs.Inodes.{context_under}
use Rattle.cs_inode.proofs.Pieces.{few_operations, numbered, operations_fit}
use Rattle.cs_inode.proofs.laws.operations_fit_their_objects.Goals as goal

pub returns-clause-few : goal.returns-clause-few
returns-clause-few c = λ tid off bytes i fit. few_operations tid i.ino off bytes (context_under i) fit

pub returns-clause-numbers : goal.returns-clause-numbers
returns-clause-numbers c = λ tid off bytes i k op is. numbered tid i.ino off bytes (context_under i) (pieces_of OBJECT_SIZE off (length bytes)) k op is

pub returns-clause-fit : goal.returns-clause-fit
returns-clause-fit c = λ tid off bytes i fit. operations_fit tid i.ino off bytes (context_under i)
