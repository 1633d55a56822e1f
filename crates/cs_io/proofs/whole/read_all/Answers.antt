use Rattle.cs_io.proofs.Known.{gone}
use Rattle.cs_io.proofs.whole.read_all.Goals as goal

pub returns-in_err-append-clause-err : goal.returns-in_err-append-clause-err
returns-in_err-append-clause-err g c =
    gone _ _ _ _ _ c.from_residual-in_err-append.result c.loop-buf.invariant.read c.in_ok-count.ensures.bytes.0
