use Rattle.std.proofs.Common.{ap, Result, Err}
use Rattle.cs_io.specs.declared.whole.ReadFault.{ReadFault}
use Rattle.cs_trim_run.specs.declared.input.Input.{Input}
use Rattle.cs_trim_run.proofs.Ending.{judged_and_written, unread}
use Rattle.cs_trim_run.proofs.serve.serve_trim.Goals as goal

pub returns-in-Err-clause-served : goal.returns-in-Err-clause-served
returns-in-Err-clause-served g c =
    rw c.read_status.ensures
    (unread c.in-Err.fault _ _ _ _ _ _ (λ is. c.in-Err.ensures.failed (ap (λ f. let r : Result Input ReadFault = Err f in r) is)))

pub returns-in-Ok-clause-served : goal.returns-in-Ok-clause-served
returns-in-Ok-clause-served g c = judged_and_written _ c.in-Ok.input _ _ _ _ _ _ _ _ c.in-Ok.ensures.ok c.serve_input.ensures
