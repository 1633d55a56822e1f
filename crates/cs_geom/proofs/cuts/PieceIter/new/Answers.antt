use Rattle.std.proofs.Common.{◌≡◌, ◌+◌, ◌-◌, arith}
use Rattle.cs_geom.proofs.Cutting.{pieces_of-cuts}
use Rattle.cs_geom.proofs.cuts.PieceIter.new.Goals as goal

pub returns-clause-cuts : goal.returns-clause-cuts
returns-clause-cuts c =
    let all : c.args.off + c.args.len - c.args.off ≡ c.args.len = omega arith
    in rw all (pieces_of-cuts c.args.unit c.args.off c.args.len c.requires.some_unit)
