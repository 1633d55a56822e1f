use Rattle.std.proofs.Common.{◌≡◌, ap, not, Bool, true, false}
use Rattle.bitflags.specs.Sets.{known_from}
use Rattle.cs_bits.proofs.Members.{fits-Has}
use Rattle.cs_bits.proofs.Caps.fits.Goals as goal

not_not : (unknown known : Bool) → unknown ≡ not known → not unknown ≡ known
not_not unknown true e = ap not e
not_not unknown false e = ap not e

pub returns-clause-value : goal.returns-clause-value
unfolding known_from
returns-clause-value c = not_not c.contains_unknown_bits.result _ (c.contains_unknown_bits.ensures tt)

pub returns-clause-members : goal.returns-clause-members
unfolding known_from
returns-clause-members c =
    rw (not_not c.contains_unknown_bits.result _ (c.contains_unknown_bits.ensures tt)) (fits-Has c.args.self)
