use Rattle.std.proofs.Common.{◌≡◌, List, ◌++◌}
use Rattle.std.specs.Fmt.{HasWritten, IsPlainFormatter}
use Rattle.std.specs.Slice.Iter.{chunks_rest, chunks_size}
use Rattle.cs_text.specs.Hex.{hex_text}
use Rattle.cs_text.proofs.hexadecimal.HexTextDisplay.fmt.Given as goal

abbrev pub invariant-loop-piece : goal.invariant-loop-piece
invariant-loop-piece g l =
    (goal.iterator-loop-piece g).can_next l.piece-iterator
    × (goal.iterator-loop-piece g).is_finite l.piece-iterator
    × (chunks_size l.piece-iterator ≡ 256)
    × (IsPlainFormatter l.initial.f → (done : List _) × HasWritten g.W.Write.write_str_gives l.initial.f (hex_text done) l.f
    × (done ++ chunks_rest l.piece-iterator ≡ l.fn.self.0.now))
