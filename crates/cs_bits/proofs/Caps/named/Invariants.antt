use Rattle.std.proofs.Common.{◌≡◌, drop}
use Rattle.cs_bits.specs.Bits.{union, named, pin_letters}
use Rattle.cs_bits.proofs.Caps.named.Given as goal

abbrev pub invariant-loop-byte : goal.invariant-loop-byte
invariant-loop-byte l = union l.set (named l.letters (drop l.byte-index l.text)) ≡ named pin_letters l.text
