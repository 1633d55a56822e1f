use Rattle.std.proofs.Common.{◌≡◌, ◌-◌, ◌∙◌, drop, ap, arith}
use Rattle.cs_geom.proofs.Parts.{flat_map-part_of}
use Rattle.cs_geom.proofs.laws.parts_join_to_the_whole.Goals as goal

pub returns : goal.returns
returns c unit off bytes pieces cut =
    let none : off - off ≡ 0 = omega arith
    in flat_map-part_of off bytes off pieces (omega arith) cut.covered ∙ ap (λ n. drop n bytes) none
