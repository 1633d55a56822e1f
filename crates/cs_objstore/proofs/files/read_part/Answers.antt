use Rattle.std.proofs.Common.{◌≡◌, ◌∙◌, ap, length, arith}
use Rattle.cs_laws.specs.Objects.{object_byte}
use Rattle.cs_objstore.proofs.Reading.{bytes_written}
use Rattle.cs_objstore.proofs.files.read_part.Goals as goal

pub returns-in-Ok-clause-bytes : goal.returns-in-Ok-clause-bytes
returns-in-Ok-clause-bytes g c =
    let lent = c.as_mut_slice.ensures.value in
    let made = c.in_ok-part.ensures in
    let long : length c.read.new.out ≡ length c.in_ok-part.part.items = c.read.auto.out ∙ ap length lent in
    let full : c.in_ok-part.part.len ≡ length c.read.new.out = omega (arith, c.in_ok-part.part.ok.0, long) in
    bytes_written (object_byte c.args.at.now c.args.obj (g.O.ObjStore.ops c.args.store.now)) c.args.off c.args.count
    c.in_ok-part.part.len c.read.new.out c.in_ok-part.part.items full (long ∙ made) c.in-Ok.ensures.bytes
