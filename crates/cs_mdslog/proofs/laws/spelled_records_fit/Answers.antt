use Rattle.std.proofs.Common.{◌≡◌, Bool, true, refl}
use Rattle.std.specs.Prelude.{◌&&◌, nat_le}
use Rattle.std.proofs.lemmas.Bool.{and_parts}
use Rattle.cs_codec.specs.Fields.{is_in}
use Rattle.cs_codec.proofs.Steps.{both_true}
use Rattle.cs_ids.specs.Names.{is_name}
use Rattle.cs_ids.specs.declared.objects.FileMeta.{FileMeta}
use Rattle.cs_laws.specs.declared.records.RecordBody.{RecordBody}
use Rattle.cs_laws.specs.declared.records.RecordBody.TheVariants as bodies
use Rattle.cs_laws.specs.Fits.{greatest_end, greatest_time, is_mode}
use Rattle.cs_laws.specs.Spellings.{body_fits, body_spelled, is_counted, meta_fits, meta_spelled}
use Rattle.cs_mdslog.proofs.laws.spelled_records_fit.Goals as goal

left : (a b : Bool) → (a && b) ≡ true → a ≡ true
left a b is = (and_parts a b is).0

right : (a b : Bool) → (a && b) ≡ true → b ≡ true
right a b is = (and_parts a b is).1

spelled_meta_fits : (m : FileMeta) → meta_spelled m ≡ true → meta_fits m ≡ true
spelled_meta_fits m is =
    let size = and_parts (is_in 0 greatest_end m.size) (is_in 0 greatest_time m.mtime && is_in 0 4095 m.mode) is in
    let time = and_parts (is_in 0 greatest_time m.mtime) (is_in 0 4095 m.mode) size.1 in
    both_true (nat_le m.size greatest_end) (nat_le m.mtime greatest_time && is_mode m.mode) (right (nat_le 0 m.size) (nat_le m.size greatest_end) size.0)
    (both_true (nat_le m.mtime greatest_time) (is_mode m.mode) (right (nat_le 0 m.mtime) (nat_le m.mtime greatest_time) time.0)
    (right (nat_le 0 m.mode) (nat_le m.mode 4095) time.1))

spelled_body_fits : (b : RecordBody) → body_spelled b ≡ true → body_fits b ≡ true
spelled_body_fits (bodies.Request tid op answer) is = refl
spelled_body_fits (bodies.Flush snap f tid follows meta) is =
    let rest = right (is_counted f) (is_counted tid && (is_in 0 99999 follows && meta_spelled meta)) is in
    spelled_meta_fits meta (right (is_in 0 99999 follows) (meta_spelled meta) (right (is_counted tid) (is_in 0 99999 follows && meta_spelled meta) rest))
spelled_body_fits (bodies.Snap number d name) is =
    left (nat_le 1 number) (nat_le number 99999) (left (is_counted number) (is_counted d && is_name name) is)
spelled_body_fits (bodies.Removal s number) is =
    let parts = and_parts (is_counted s) (is_counted number) is in
    both_true (nat_le 1 s) (nat_le 1 number) (left (nat_le 1 s) (nat_le s 99999) parts.0) (left (nat_le 1 number) (nat_le number 99999) parts.1)

pub returns : goal.returns
returns c = λ r is. spelled_body_fits r.body is
