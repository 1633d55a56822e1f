use Rattle.std.proofs.Common.{◌∙◌, sym, ap, Some, Ok, Err, inl, inr}
use Rattle.cs_text.proofs.HexPairs.{bytes_of_hex-other, decode_of-same}
use Rattle.cs_text.proofs.hexadecimal.read_hex.Goals as goal

pub returns-then-not-are_hex_digits : goal.returns-then-not-are_hex_digits
returns-then-not-are_hex_digits c =
    sym (bytes_of_hex-other c.args.b.now (sym c.are_hex_digits.ensures ∙ c.if-not-are_hex_digits.true))

pub returns-in-Ok : goal.returns-in-Ok
returns-in-Ok c =
    ap Some c.from_vec.ensures
    ∙ sym (decode_of-same c.args.b.now (Ok c.in-Ok.bytes.items) (sym c.are_hex_digits.ensures ∙ c.if-not-are_hex_digits.false) c.in-Ok.ensures.ok)

pub returns-in_default : goal.returns-in_default
returns-in_default c =
    elim c.in-Err.ensures.err [
      | inl memory ↦ absurd (c.in_default.not-OutOfMemory memory)
      | inr refused ↦
          sym (decode_of-same c.args.b.now (Err c.in-Err.fault) (sym c.are_hex_digits.ensures ∙ c.if-not-are_hex_digits.false) refused)
    ]
