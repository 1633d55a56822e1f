use Rattle.std.proofs.Common.{◌+◌, sym, arith, length}
use Rattle.std.proofs.lemmas.List.{drop_all, take_all}
use Rattle.std.proofs.lemmas.Slice.{between_to_end}
use Rattle.cs_text.proofs.Newlines.{lines_in-Some, lines_in-None}
use Rattle.cs_text.proofs.lines.first_line.Goals as goal

pub returns-in-Some : goal.returns-in-Some
returns-in-Some c =
    rw (between_to_end c.args.b.now (c.in-Some.end + 1) (length c.args.b.now) (omega arith))
    (lines_in-Some c.args.b.now c.in-Some.end (sym c.in-Some.ensures))

pub returns-in-None : goal.returns-in-None
returns-in-None c =
    rw (c.split_at.ensures.front, c.split_at.ensures.back, take_all (length c.args.b.now) c.args.b.now (omega arith), drop_all (length c.args.b.now) c.args.b.now (omega arith))
    (lines_in-None c.args.b.now c.requires (sym c.in-None.ensures))
