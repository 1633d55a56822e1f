use Rattle.std.proofs.Common.{◌∙◌, sym, ◌+◌}
use Rattle.cs_trim.proofs.Reading.{reads_state}
use Rattle.cs_trim.proofs.store.TrimStore.read.Goals as goal

pub returns-in-Standing : goal.returns-in-Standing
returns-in-Standing c =
    let stands = sym c.status.ensures ∙ c.in-Standing.is in
    (stands, λ h s i less. c.read_object.ensures i less ∙ reads_state c.args.at c.args.b (c.args.off + i) h c.args.self.now s stands)
