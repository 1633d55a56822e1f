use Rattle.std.proofs.Common.{◌≡◌, ◌+◌, ◌≤◌, ◌++◌, length, take, drop}
use Rattle.cs_bits.specs.Bits.{letters_of}
use Rattle.cs_bits.proofs.Caps.put_letters.Given as goal

abbrev pub invariant-loop-letter : goal.invariant-loop-letter
invariant-loop-letter l =
    (take l.end l.out ≡ take l.initial.end l.initial.out ++ letters_of l.self (take l.letter-index l.letters))
    × (l.end ≡ l.initial.end + length (letters_of l.self (take l.letter-index l.letters)))
    × (l.end ≤ l.initial.end + l.letter-index)
    × (drop l.end l.out ≡ drop l.end l.initial.out)
