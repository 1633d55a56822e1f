-- What reading a record from the left gives: the value and the bytes behind it, or None.
use Rattle.std.specs.Prelude.{ℕ, ◌==◌, None, if◌then◌else◌}
use Rattle.cs_ids.specs.declared.objects.FileMeta.{FileMeta}
use Rattle.cs_codec.specs.Fields.{Reading, both, flag_at, made, name_at, number_at, tagged}
use Rattle.cs_laws.specs.Fits.{greatest_end, greatest_time}
use Rattle.cs_laws.specs.declared.records.Record.{Record}
use Rattle.cs_laws.specs.declared.records.RecordBody.{RecordBody}
use Rattle.cs_laws.specs.declared.records.RecordBody.TheVariants as bodies
use Rattle.cs_laws.specs.declared.requests.OpAnswer.{OpAnswer}
use Rattle.cs_laws.specs.declared.requests.OpAnswer.TheVariants as replies
use Rattle.cs_laws.specs.declared.requests.ReqOp.{ReqOp}
use Rattle.cs_laws.specs.declared.requests.ReqOp.TheVariants as ops

-- an inode, or a number that counts from 1
abbrev pub counted_at : Reading ℕ
counted_at xs = number_at 8 1 99999 xs

abbrev pub op_of : ℕ → Reading ReqOp
op_of k xs =
    if k == 1 then made (λ p. ops.Mkdir p.0 p.1) (both counted_at name_at xs)
    else if k == 2 then made (λ p. ops.Create p.0 p.1) (both counted_at name_at xs)
    else if k == 3 then made (λ p. ops.Unlink p.0 p.1) (both counted_at name_at xs)
    else if k == 4 then made (λ p. ops.Rename p.0 p.1.0 p.1.1) (both counted_at (both name_at name_at) xs)
    else if k == 5 then made (λ p. ops.Lookup p.0 p.1) (both counted_at name_at xs)
    else None

unfoldable pub op_at : Reading ReqOp
op_at xs = tagged 1 5 op_of xs

-- the inode is 0 where there is none
abbrev pub without_ino : OpAnswer → Reading OpAnswer
without_ino reply xs = made (λ _. reply) (number_at 8 0 0 xs)

abbrev pub reply_of : ℕ → Reading OpAnswer
reply_of k xs =
    if k == 1 then made (λ i. replies.Made i) (counted_at xs)
    else if k == 2 then made (λ i. replies.Found i) (counted_at xs)
    else if k == 3 then without_ino replies.Gone xs
    else if k == 4 then without_ino replies.Moved xs
    else if k == 5 then without_ino replies.Exists xs
    else if k == 6 then without_ino replies.Missing xs
    else if k == 7 then without_ino replies.NotEmpty xs
    else if k == 8 then without_ino replies.NotDir xs
    else None

unfoldable pub reply_at : Reading OpAnswer
reply_at xs = tagged 1 8 reply_of xs

abbrev pub meta_of : ℕ × (ℕ × ℕ) → FileMeta
meta_of p = record { size = p.0; mtime = p.1.0; mode = p.1.1 }

unfoldable pub meta_at : Reading FileMeta
meta_at xs = made meta_of (both (number_at 8 0 greatest_end) (both (number_at 8 0 greatest_time) (number_at 2 0 4095)) xs)

unfoldable pub request_at : Reading RecordBody
request_at xs = made (λ p. bodies.Request p.0 p.1.0 p.1.1) (both counted_at (both op_at reply_at) xs)

unfoldable pub flush_at : Reading RecordBody
flush_at xs =
    made (λ p. bodies.Flush p.0 p.1.0 p.1.1.0 p.1.1.1.0 p.1.1.1.1)
    (both flag_at (both counted_at (both counted_at (both (number_at 8 0 99999) meta_at))) xs)

unfoldable pub snap_at : Reading RecordBody
snap_at xs = made (λ p. bodies.Snap p.0 p.1.0 p.1.1) (both counted_at (both counted_at name_at) xs)

unfoldable pub removal_at : Reading RecordBody
removal_at xs = made (λ p. bodies.Removal p.0 p.1) (both counted_at counted_at xs)

abbrev pub body_of : ℕ → Reading RecordBody
body_of k xs =
    if k == 1 then request_at xs
    else if k == 2 then flush_at xs
    else if k == 3 then snap_at xs
    else if k == 4 then removal_at xs
    else None

unfoldable pub body_at : Reading RecordBody
body_at xs = tagged 1 4 body_of xs

-- of the version and what is behind it
abbrev pub record_of : ℕ × RecordBody → Record
record_of p = record { body = p.1 }

unfoldable pub record_at : Reading Record
record_at xs = made record_of (both (number_at 1 1 1) body_at xs)
