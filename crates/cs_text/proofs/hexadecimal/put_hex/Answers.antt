use Rattle.std.proofs.Common.{◌≡◌, ◌∙◌, arith}
use Rattle.cs_text.specs.Hex.{hex_text}
use Rattle.cs_text.proofs.HexPairs.{hex_text-encode}
use Rattle.cs_text.proofs.hexadecimal.put_hex.Goals as goal

pub returns-clause-ok : goal.returns-clause-ok
returns-clause-ok c =
    let text : c.as_bytes.result.now ≡ hex_text c.args.b.now =
    c.as_bytes.ensures.value ∙ (c.in_ok-text.ensures ∙ hex_text-encode c.args.b.now (λ i. omega (arith, c.type_inv.b i))) in
    rw text at c.append.ensures.ok
