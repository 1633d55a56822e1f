use Rattle.std.proofs.Common.{◌≡◌, ◌++◌, subst}
use Rattle.std.specs.Prelude.{OnOk}
use Rattle.cs_codec.specs.Fields.{number_bytes}
use Rattle.cs_codec.proofs.Names.{written_name}
use Rattle.cs_codec.proofs.writer.put_name.Goals as goal

pub returns-clause-ok : goal.returns-clause-ok
unfolding number_bytes
returns-clause-ok c =
    let text = c.as_slice-bytes in
    let copied = c.copy_from_slice in
    subst (λ bs. OnOk c.append.result (c.append.new.self ≡ c.args.out.now ++ bs))
    (written_name c.args.name.now text.result.now copied.new.self _ text.ensures.bytes text.ensures.name copied.ensures.after)
    c.append.ensures.ok
