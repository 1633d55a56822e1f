use Rattle.std.proofs.Common.{◌≡◌, [], ◌++◌, ap, refl, sym, true, Option, Some, None}
use Rattle.cs_codec.specs.Codecs.{IsSpelled, IsUnspelled}
use Rattle.cs_codec.proofs.Codecs.{one_spelling}
use Rattle.cs_laws.specs.declared.records.Record.{Record}
use Rattle.cs_laws.specs.Spellings.{record_bytes, record_spelled}
use Rattle.cs_mdslog.proofs.Records.{record_codec}
use Rattle.cs_mdslog.proofs.laws.each_record_is_read.Goals as goal

is_read : (r : Record) (read : Option Record) → record_spelled r ≡ true → IsSpelled record_bytes record_spelled (record_bytes r) read
    → IsUnspelled record_bytes record_spelled (record_bytes r) read → read ≡ Some r
is_read r None fits spelled unspelled = absurd (unspelled r fits refl)
is_read r (Some s) fits spelled unspelled =
    let same : s ≡ r = one_spelling record_codec s r [] [] spelled.1 fits (ap (λ xs. xs ++ []) (sym spelled.0)) in
    rw same refl

pub returns : goal.returns
returns c = is_read
