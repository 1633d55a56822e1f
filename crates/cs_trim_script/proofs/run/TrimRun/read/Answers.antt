use Rattle.std.proofs.Common.{◌≡◌, ◌∙◌, ap, length, arith}
use Rattle.cs_trim_script.specs.declared.answers.Answer.TheVariants as answers
use Rattle.cs_trim_script.proofs.Places.{reads_bytes, written_over}
use Rattle.cs_trim_script.proofs.run.TrimRun.read.Goals as goal

pub returns-in-Read : goal.returns-in-Read
returns-in-Read c = λ h r.
    let same : length c.read.new.out ≡ length c.in_ok-bytes.bytes.items = c.read.auto.out ∙ ap length c.as_mut_slice.ensures.value in
    let full : c.in_ok-bytes.bytes.len ≡ length c.read.new.out = omega (arith, c.in_ok-bytes.bytes.ok.0, same) in
    let long : length c.read.new.out ≡ c.args.len = omega (arith, full, c.in_ok-bytes.ensures.len) in
    let bytes = c.from_vec.ensures ∙ written_over c.in_ok-bytes.bytes.len c.read.new.out c.in_ok-bytes.bytes.items full in (
      ap answers.Bytes bytes
          ∙ reads_bytes c.args.object c.args.off c.args.len c.args.at c.args.self.now.store c.as_mut_slice.result.now c.read.new.out long c.in-Read.ensures h r.store,
      record { store = r.store; writes = r.writes },
    )
