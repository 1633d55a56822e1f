use Rattle.std.proofs.Common.{◌≡◌, ◌∙◌, ap, ◌+◌, ◌-◌, length, arith}
use Rattle.std.proofs.lemmas.List.{length-append}
use Rattle.cs_laws.specs.declared.objects.At.TheVariants as at
use Rattle.cs_objstore.specs.Files.{file_byte}
use Rattle.cs_objstore.proofs.Reading.{front_read, length_bytes}
use Rattle.cs_client.proofs.writes.read_base.Goals as goal

pub returns-clause-length : goal.returns-clause-length
returns-clause-length g c =
    let base : length c.in_ok-base.base ≡ c.args.count =
    ap length c.in_ok-base.ensures.bytes ∙ length_bytes (file_byte at.Head c.args.file (g.O.ObjStore.ops c.args.store.now)) c.args.off c.args.count in
    let rest : length c.as_slice.result.now ≡ c.min-most.result - c.args.count = ap length c.as_slice.ensures.value ∙ c.in_ok-rest.ensures in
    let whole : length c.append.new.self ≡ length c.in_ok-base.base + length c.as_slice.result.now =
    ap length c.in_ok-append.ensures.ok ∙ length-append c.in_ok-base.base c.as_slice.result.now in
    omega (arith, base, rest, whole, c.min-most.ensures)

pub returns-clause-front : goal.returns-clause-front
returns-clause-front g c =
    front_read (file_byte at.Head c.args.file (g.O.ObjStore.ops c.args.store.now)) c.args.off c.args.count c.in_ok-base.base c.as_slice.result.now
    c.append.new.self c.in_ok-base.ensures.bytes c.in_ok-append.ensures.ok
