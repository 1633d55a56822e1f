use Rattle.std.proofs.Common.{sym, subst, List, ℕ, IsUtf8}
use Rattle.cs_bits.proofs.Reading.{text_is_utf8}
use Rattle.cs_bits.proofs.text.CapsDisplay.fmt.Goals as goal

pub unreachable-requires : goal.unreachable-requires
unreachable-requires g c = let P : List ℕ → Type 0 = λ t. IsUtf8 t in c.in-Err.ensures.cases.0 (subst P (sym c.to_text-end.ensures.text) (text_is_utf8 c.args.self.now))
