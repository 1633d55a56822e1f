use Rattle.std.proofs.Common.{◌≡◌, drop}
use Rattle.cs_bits.specs.Bits.{cap_of}
use Rattle.cs_bits.proofs.text.cap_of.Given as goal

abbrev pub invariant-loop-letter : goal.invariant-loop-letter
invariant-loop-letter l = cap_of (drop l.letter-index l.letters) l.byte ≡ cap_of l.letters l.byte
