use Rattle.std.proofs.Common.{◌≡◌, arith}
use Rattle.std.specs.Prelude.{Result, Ok, Err, IfOk}
use Rattle.cs_codec.specs.Codecs.{IsSpelled, IsUnspelled}
use Rattle.cs_codec.specs.Fields.{whole}
use Rattle.cs_codec.proofs.Wholes.{spelled, unspelled}
use Rattle.cs_laws.specs.Spellings.{record_bytes, record_spelled}
use Rattle.cs_mdslog.specs.Readings.{record_at}
use Rattle.cs_mdslog.proofs.Records.{record_codec}
use Rattle.cs_mdslog.proofs.decode.decode_record.Goals as goal

if_ok : {T E : Type 0} (P Q : T → Type 0) (r : Result T E) → ((t : T) → P t → Q t) → IfOk r P → IfOk r Q
if_ok P Q (Ok t) then p = then t p
if_ok P Q (Err e) then p = tt

pub returns-clause-some : goal.returns-clause-some
returns-clause-some c =
    if_ok (λ o. o ≡ whole (record_at c.args.bytes.now)) (λ o. IsSpelled record_bytes record_spelled c.args.bytes.now o) c.read_whole.result
    (λ o is. spelled record_codec c.args.bytes.now (λ i. omega (arith, c.type_inv.bytes i)) o is) c.read_whole.ensures

pub returns-clause-none : goal.returns-clause-none
returns-clause-none c =
    if_ok (λ o. o ≡ whole (record_at c.args.bytes.now)) (λ o. IsUnspelled record_bytes record_spelled c.args.bytes.now o) c.read_whole.result
    (λ o is. unspelled record_codec c.args.bytes.now o is) c.read_whole.ensures
