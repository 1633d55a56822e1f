use Rattle.cs_script.proofs.Scripts.{script_read}
use Rattle.cs_script.proofs.laws.each_script_is_read.Goals as goal

pub returns : goal.returns
returns c = script_read
