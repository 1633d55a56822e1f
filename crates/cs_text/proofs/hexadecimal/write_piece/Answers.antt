use Rattle.std.proofs.Common.{◌≡◌, ◌∙◌, arith}
use Rattle.std.proofs.Output.{has_written_of_eq}
use Rattle.cs_text.specs.Hex.{hex_text}
use Rattle.cs_text.proofs.HexPairs.{hex_text-encode, IsUtf8-hex}
use Rattle.cs_text.proofs.hexadecimal.write_piece.Goals as goal

pub unreachable-requires-in_default-from_utf8 : goal.unreachable-requires-in_default-from_utf8
unreachable-requires-in_default-from_utf8 g c =
    let piece = c.args.piece.now in
    let written : c.encode_to_slice.new.output ≡ hex_text piece =
    c.in-Ok.ensures.written ∙ hex_text-encode piece (λ i. omega (arith, c.type_inv.piece i)) in
    c.in_default-from_utf8.ensures.cases.0 (rw written (IsUtf8-hex piece (λ i. omega (arith, c.type_inv.piece i))))

pub returns : goal.returns
returns g c = λ plain ok.
    let piece = c.args.piece.now in
    let written : c.in-Ok-from_utf8.text.now ≡ hex_text piece =
    c.in-Ok-from_utf8.ensures.cases.0 ∙ (c.in-Ok.ensures.written ∙ hex_text-encode piece (λ i. omega (arith, c.type_inv.piece i))) in
    has_written_of_eq _ _ _ _ _ written (c.write_str.ensures.writes plain ok)
