use Rattle.std.proofs.Common.{◌≡◌, ◌∙◌, sym, Some}
use Rattle.cs_laws.specs.References.{named}
use Rattle.cs_client.proofs.Counts.{named_kept, never_absent}
use Rattle.cs_client.proofs.writes.read.Goals as goal

pub unreachable-requires : goal.unreachable-requires
unreachable-requires g c =
    let r = c.in-Some.live in
    let found : named c.args.caller c.args.name c.args.refs.now.live ≡ Some r = sym c.find.ensures ∙ c.in-Some.is in
    let kept = named_kept c.args.files.now c.args.caller c.args.name r c.args.refs.now.live c.requires.tables found in
    never_absent c.args.files.now r.file kept (sym c.in_default-get.ensures.value)

pub read_inode-requires-clause-size : goal.read_inode-requires-clause-size
read_inode-requires-clause-size g c κs within =
    (c.requires.tables.1.rows c.in-Some.live.file c.in-Some-get.row.now (sym c.in-Some-get.ensures.value)).size
