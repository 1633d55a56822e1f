use Rattle.std.proofs.Common.{◌∙◌, sym}
use Rattle.cs_text.proofs.Decimals.{IsUtf8-decimal, parsed}
use Rattle.cs_text.proofs.numbers.read_dec.Goals as goal

pub returns-in_default : goal.returns-in_default
returns-in_default c =
    absurd (c.in_default.ensures.cases.0 (IsUtf8-decimal c.args.b.now (sym c.is_decimal.ensures ∙ c.if-not-is_decimal.false)))

pub returns-in-Ok-parse : goal.returns-in-Ok-parse
returns-in-Ok-parse c =
    rw c.in-Ok-parse.is at
    (parsed c.args.b.now c.in-Ok.digits.now c.parse.result c.in-Ok.ensures.cases.0 (sym c.is_decimal.ensures ∙ c.if-not-is_decimal.false) c.parse.ensures.value.0)

pub returns-in-Err : goal.returns-in-Err
returns-in-Err c =
    rw c.in-Err.is at
    (parsed c.args.b.now c.in-Ok.digits.now c.parse.result c.in-Ok.ensures.cases.0 (sym c.is_decimal.ensures ∙ c.if-not-is_decimal.false) c.parse.ensures.value.0)
