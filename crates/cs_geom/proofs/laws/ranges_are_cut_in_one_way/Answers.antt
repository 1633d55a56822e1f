use Rattle.std.proofs.Common.{sym, ◌∙◌}
use Rattle.cs_geom.proofs.Cutting.{pieces_of-only}
use Rattle.cs_geom.proofs.laws.ranges_are_cut_in_one_way.Goals as goal

pub returns-clause-equal : goal.returns-clause-equal
returns-clause-equal c unit off len pieces others cut also = pieces_of-only unit off len pieces cut ∙ sym (pieces_of-only unit off len others also)

pub returns-clause-known : goal.returns-clause-known
returns-clause-known c = pieces_of-only
