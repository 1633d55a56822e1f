use Rattle.std.proofs.Common.{◌∙◌, ◌++◌, ◌∷◌, [], ◌<◌, ap, sym, subst}
use Rattle.cs_records.specs.Flushed.{Flushed}
use Rattle.cs_records.specs.Places.{ArePlaced, greatest_in}
use Rattle.cs_records.proofs.FlushPlaces.{placed_more}
use Rattle.cs_records.proofs.flushes.FileFlushes.add.Goals as goal

pub invariant_of-self-2 : goal.invariant_of-self-2
invariant_of-self-2 c =
    let xs = c.self.inside.numbers.items in
    let grown = c.push_reserved.ensures.items ∙ ap (λ ys. ys ++ (c.args.tid, c.args.place) ∷ []) c.in_ok-reserve.ensures.items in
    let low : greatest_in xs < c.args.tid = subst (λ (s : Flushed). greatest_in s.places < c.args.tid) (sym c.self.view_is) c.requires in
    subst ArePlaced (sym grown) (placed_more xs (c.args.tid, c.args.place) c.self.invariant low)
