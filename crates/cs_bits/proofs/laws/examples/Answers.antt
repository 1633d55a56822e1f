use Rattle.std.proofs.Common.{refl}
use Rattle.cs_bits.specs.Bits.{caps_text, caps_of}
use Rattle.cs_bits.proofs.laws.examples.Goals as goal

pub returns : goal.returns
unfolding caps_text caps_of
returns c = record {
  written = refl;
  read = refl;
  empty = refl;
  dash = refl;
  out_of_order = refl;
  bare = refl;
  nothing = refl;
  twice = refl;
}
