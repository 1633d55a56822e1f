use Rattle.std.proofs.Common.{◌∙◌, ap, min, length}
use Rattle.cs_objstore.proofs.Bytes.{copied}
use Rattle.cs_trim.proofs.block.lay_over.Goals as goal

pub returns : goal.returns
returns c =
    copied c.args.start c.args.off c.min-place.result c.min-skipped.result c.min-count.result c.args.out.now c.args.bytes.now
    c.copy_from_slice.new.self
    (c.min-skipped.ensures ∙ ap (λ n. min n (length c.args.bytes.now)) c.saturating_sub.ensures)
    (c.min-place.ensures ∙ ap (λ n. min n (length c.args.out.now)) c.saturating_sub-2.ensures)
    c.min-count.ensures c.copy_from_slice.ensures.after
