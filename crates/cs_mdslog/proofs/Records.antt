-- What reading gives of records fits their spelling.
use Rattle.std.proofs.Common.{◌≡◌, refl, sym, ap, ◌∙◌, ℕ, ◌≤◌, Bool, true, List, ◌++◌, Some, append_assoc, arith, subst}
use Rattle.std.specs.Prelude.{◌&&◌, nat_le}
use Rattle.std.proofs.lemmas.Bool.{and_parts, leb-true}
use Rattle.cs_codec.specs.Codecs.{Codec, IsBytes, IsOfKind}
use Rattle.cs_codec.specs.Fields.{both, flag_at, flag_bytes, is_in, name_at, name_bytes, number_at, number_bytes, tagged}
use Rattle.cs_codec.proofs.Codecs.{both_codec, mapped_codec}
use Rattle.cs_codec.proofs.Names.{name_codec}
use Rattle.cs_codec.proofs.Numbers.{flag_codec, number_codec}
use Rattle.cs_codec.proofs.Steps.{made_some}
use Rattle.cs_codec.proofs.Tagged.{kind_back, kind_owns, pick, tagged_codec}
use Rattle.cs_ids.specs.Names.{is_name}
use Rattle.cs_ids.specs.declared.objects.FileMeta.{FileMeta}
use Rattle.cs_laws.specs.declared.records.RecordBody.{RecordBody}
use Rattle.cs_laws.specs.declared.records.RecordBody.TheVariants as bodies
use Rattle.cs_laws.specs.declared.requests.OpAnswer.{OpAnswer}
use Rattle.cs_laws.specs.declared.requests.OpAnswer.TheVariants as replies
use Rattle.cs_laws.specs.declared.requests.ReqOp.{ReqOp}
use Rattle.cs_laws.specs.declared.requests.ReqOp.TheVariants as ops
use Rattle.cs_laws.specs.Fits.{greatest_end, greatest_time}
use Rattle.cs_laws.specs.Spellings.{body_bytes, body_spelled, is_counted, meta_bytes, meta_spelled, op_bytes, op_spelled, record_bytes, record_spelled, reply_bytes, reply_spelled}
use Rattle.cs_mdslog.specs.Readings.{body_at, body_of, counted_at, flush_at, meta_at, meta_of, op_at, op_of, record_at, record_of, removal_at, reply_at, reply_of, request_at, snap_at, without_ino}

counted_codec : Codec (number_bytes 8) is_counted counted_at
counted_codec = number_codec 8 1 99999 (omega arith)

-- Operations

-- an inode and a name
entry_codec : Codec {X = ℕ × List ℕ} (λ p. number_bytes 8 p.0 ++ name_bytes p.1) (λ p. is_counted p.0 && is_name p.1) (both counted_at name_at)
entry_codec = both_codec counted_codec name_codec

-- an inode and two names
renamed_codec : Codec {X = ℕ × (List ℕ × List ℕ)} (λ p. number_bytes 8 p.0 ++ (name_bytes p.1.0 ++ name_bytes p.1.1))
    (λ p. is_counted p.0 && (is_name p.1.0 && is_name p.1.1)) (both counted_at (both name_at name_at))
renamed_codec = both_codec counted_codec (both_codec name_codec name_codec)

op_back : (y : ReqOp) (rest : List ℕ) → op_spelled y ≡ true → tagged 1 5 op_of (op_bytes y ++ rest) ≡ Some (y, rest)
op_back (ops.Mkdir d name) rest fits = kind_back entry_codec 1 5 1 op_of (λ p. ops.Mkdir p.0 p.1) (omega arith) refl (λ xs. refl) (d, name) rest fits
op_back (ops.Create d name) rest fits = kind_back entry_codec 1 5 2 op_of (λ p. ops.Create p.0 p.1) (omega arith) refl (λ xs. refl) (d, name) rest fits
op_back (ops.Unlink d name) rest fits = kind_back entry_codec 1 5 3 op_of (λ p. ops.Unlink p.0 p.1) (omega arith) refl (λ xs. refl) (d, name) rest fits
op_back (ops.Rename d name new) rest fits =
    kind_back renamed_codec 1 5 4 op_of (λ p. ops.Rename p.0 p.1.0 p.1.1) (omega arith) refl (λ xs. refl) (d, (name, new)) rest fits
op_back (ops.Lookup d name) rest fits = kind_back entry_codec 1 5 5 op_of (λ p. ops.Lookup p.0 p.1) (omega arith) refl (λ xs. refl) (d, name) rest fits

op_owns : (k : ℕ) (xs : List ℕ) (y : ReqOp) (rest : List ℕ) → IsBytes xs → op_of k xs ≡ Some (y, rest) → IsOfKind op_bytes op_spelled xs y rest k
op_owns k xs y rest all is =
    let P : ℕ → Type 0 = IsOfKind op_bytes op_spelled xs y rest in
    pick P k 1 _ _ (y, rest) is (λ m. kind_owns entry_codec 1 op_bytes op_spelled (λ p. ops.Mkdir p.0 p.1) (λ x. refl) (λ x. refl) xs y rest all m)
    (λ is. pick P k 2 _ _ (y, rest) is (λ m. kind_owns entry_codec 2 op_bytes op_spelled (λ p. ops.Create p.0 p.1) (λ x. refl) (λ x. refl) xs y rest all m)
    (λ is. pick P k 3 _ _ (y, rest) is (λ m. kind_owns entry_codec 3 op_bytes op_spelled (λ p. ops.Unlink p.0 p.1) (λ x. refl) (λ x. refl) xs y rest all m)
    (λ is. pick P k 4 _ _ (y, rest) is
    (λ m. kind_owns renamed_codec 4 op_bytes op_spelled (λ p. ops.Rename p.0 p.1.0 p.1.1) (λ x. refl) (λ x. refl) xs y rest all m)
    (λ is. pick P k 5 _ _ (y, rest) is (λ m. kind_owns entry_codec 5 op_bytes op_spelled (λ p. ops.Lookup p.0 p.1) (λ x. refl) (λ x. refl) xs y rest all m)
    (λ is. absurd cc)))))

op_codec : Codec op_bytes op_spelled op_at
unfolding op_at
op_codec = tagged_codec 1 5 op_of op_bytes op_spelled (omega arith) op_back op_owns

-- What they are answered with

zero_codec : Codec (number_bytes 8) (is_in 0 0) (number_at 8 0 0)
zero_codec = number_codec 8 0 0 (omega arith)

-- an answer without an inode
bare_back : (y : OpAnswer) (k : ℕ) (rest : List ℕ) → is_in 1 8 k ≡ true → ((xs : List ℕ) → reply_of k xs ≡ without_ino y xs)
    → tagged 1 8 reply_of ((number_bytes 1 k ++ number_bytes 8 0) ++ rest) ≡ Some (y, rest)
bare_back y k rest within chosen = kind_back zero_codec 1 8 k reply_of (λ _. y) (omega arith) within chosen 0 rest refl

bare_owns : (y : OpAnswer) (k : ℕ) → reply_bytes y ≡ number_bytes 1 k ++ number_bytes 8 0 → reply_spelled y ≡ true
    → (xs : List ℕ) (z : OpAnswer) (rest : List ℕ) → IsBytes xs → without_ino y xs ≡ Some (z, rest) → IsOfKind reply_bytes reply_spelled xs z rest k
bare_owns y k text fine xs z rest all is =
    let x = made_some (λ (i : ℕ). y) (number_at 8 0 0 xs) z rest is in
    let left = zero_codec.owns xs x.0 rest all x.1 in
    let none : x.0 ≡ 0 = omega (arith, leb-true x.0 0 (and_parts (nat_le 0 x.0) (nat_le x.0 0) left.1).1) in
    subst (λ (w : OpAnswer). IsOfKind reply_bytes reply_spelled xs w rest k) x.2 (
      ap (λ ys. number_bytes 1 k ++ ys) (left.0 ∙ ap (λ n. number_bytes 8 n ++ rest) none)
          ∙ (sym (append_assoc (number_bytes 1 k) (number_bytes 8 0) rest) ∙ ap (λ ys. ys ++ rest) (sym text)),
      fine,
    )

reply_back : (y : OpAnswer) (rest : List ℕ) → reply_spelled y ≡ true → tagged 1 8 reply_of (reply_bytes y ++ rest) ≡ Some (y, rest)
reply_back (replies.Made i) rest fits = kind_back counted_codec 1 8 1 reply_of (λ i. replies.Made i) (omega arith) refl (λ xs. refl) i rest fits
reply_back (replies.Found i) rest fits = kind_back counted_codec 1 8 2 reply_of (λ i. replies.Found i) (omega arith) refl (λ xs. refl) i rest fits
reply_back replies.Gone rest fits = bare_back replies.Gone 3 rest refl (λ xs. refl)
reply_back replies.Moved rest fits = bare_back replies.Moved 4 rest refl (λ xs. refl)
reply_back replies.Exists rest fits = bare_back replies.Exists 5 rest refl (λ xs. refl)
reply_back replies.Missing rest fits = bare_back replies.Missing 6 rest refl (λ xs. refl)
reply_back replies.NotEmpty rest fits = bare_back replies.NotEmpty 7 rest refl (λ xs. refl)
reply_back replies.NotDir rest fits = bare_back replies.NotDir 8 rest refl (λ xs. refl)

reply_owns : (k : ℕ) (xs : List ℕ) (y : OpAnswer) (rest : List ℕ) → IsBytes xs → reply_of k xs ≡ Some (y, rest)
    → IsOfKind reply_bytes reply_spelled xs y rest k
reply_owns k xs y rest all is =
    let P : ℕ → Type 0 = IsOfKind reply_bytes reply_spelled xs y rest in
    pick P k 1 _ _ (y, rest) is (λ m. kind_owns counted_codec 1 reply_bytes reply_spelled (λ i. replies.Made i) (λ x. refl) (λ x. refl) xs y rest all m)
    (λ is. pick P k 2 _ _ (y, rest) is
    (λ m. kind_owns counted_codec 2 reply_bytes reply_spelled (λ i. replies.Found i) (λ x. refl) (λ x. refl) xs y rest all m)
    (λ is. pick P k 3 _ _ (y, rest) is (λ m. bare_owns replies.Gone 3 refl refl xs y rest all m)
    (λ is. pick P k 4 _ _ (y, rest) is (λ m. bare_owns replies.Moved 4 refl refl xs y rest all m)
    (λ is. pick P k 5 _ _ (y, rest) is (λ m. bare_owns replies.Exists 5 refl refl xs y rest all m)
    (λ is. pick P k 6 _ _ (y, rest) is (λ m. bare_owns replies.Missing 6 refl refl xs y rest all m)
    (λ is. pick P k 7 _ _ (y, rest) is (λ m. bare_owns replies.NotEmpty 7 refl refl xs y rest all m)
    (λ is. pick P k 8 _ _ (y, rest) is (λ m. bare_owns replies.NotDir 8 refl refl xs y rest all m)
    (λ is. absurd cc))))))))

reply_codec : Codec reply_bytes reply_spelled reply_at
unfolding reply_at
reply_codec = tagged_codec 1 8 reply_of reply_bytes reply_spelled (omega arith) reply_back reply_owns

-- Metadata

meta_codec : Codec meta_bytes meta_spelled meta_at
unfolding meta_at
meta_codec =
    mapped_codec
    (both_codec (number_codec 8 0 greatest_end (omega arith)) (both_codec (number_codec 8 0 greatest_time (omega arith)) (number_codec 2 0 4095 (omega arith))))
    meta_bytes meta_spelled meta_of (λ m fits. ((m.size, (m.mtime, m.mode)), fits, refl, refl)) (λ p fits. (refl, fits))

-- Records

request_codec : Codec {X = ℕ × (ReqOp × OpAnswer)} (λ p. number_bytes 8 p.0 ++ (op_bytes p.1.0 ++ reply_bytes p.1.1))
    (λ p. is_counted p.0 && (op_spelled p.1.0 && reply_spelled p.1.1)) (both counted_at (both op_at reply_at))
request_codec = both_codec counted_codec (both_codec op_codec reply_codec)

flush_codec : Codec {X = Bool × (ℕ × (ℕ × (ℕ × FileMeta)))}
    (λ p. flag_bytes p.0 ++ (number_bytes 8 p.1.0 ++ (number_bytes 8 p.1.1.0 ++ (number_bytes 8 p.1.1.1.0 ++ meta_bytes p.1.1.1.1))))
    (λ p. true && (is_counted p.1.0 && (is_counted p.1.1.0 && (is_in 0 99999 p.1.1.1.0 && meta_spelled p.1.1.1.1))))
    (both flag_at (both counted_at (both counted_at (both (number_at 8 0 99999) meta_at))))
flush_codec = both_codec flag_codec (both_codec counted_codec (both_codec counted_codec (both_codec (number_codec 8 0 99999 (omega arith)) meta_codec)))

snap_codec : Codec {X = ℕ × (ℕ × List ℕ)} (λ p. number_bytes 8 p.0 ++ (number_bytes 8 p.1.0 ++ name_bytes p.1.1))
    (λ p. is_counted p.0 && (is_counted p.1.0 && is_name p.1.1)) (both counted_at (both counted_at name_at))
snap_codec = both_codec counted_codec entry_codec

removal_codec : Codec {X = ℕ × ℕ} (λ p. number_bytes 8 p.0 ++ number_bytes 8 p.1) (λ p. is_counted p.0 && is_counted p.1) (both counted_at counted_at)
removal_codec = both_codec counted_codec counted_codec

body_back : (y : RecordBody) (rest : List ℕ) → body_spelled y ≡ true → tagged 1 4 body_of (body_bytes y ++ rest) ≡ Some (y, rest)
unfolding request_at flush_at snap_at removal_at
body_back (bodies.Request tid op answer) rest fits =
    kind_back request_codec 1 4 1 body_of (λ p. bodies.Request p.0 p.1.0 p.1.1) (omega arith) refl (λ xs. refl) (tid, (op, answer)) rest fits
body_back (bodies.Flush snap f tid follows meta) rest fits =
    kind_back flush_codec 1 4 2 body_of (λ p. bodies.Flush p.0 p.1.0 p.1.1.0 p.1.1.1.0 p.1.1.1.1) (omega arith) refl (λ xs. refl)
    (snap, (f, (tid, (follows, meta)))) rest fits
body_back (bodies.Snap number d name) rest fits =
    kind_back snap_codec 1 4 3 body_of (λ p. bodies.Snap p.0 p.1.0 p.1.1) (omega arith) refl (λ xs. refl) (number, (d, name)) rest fits
body_back (bodies.Removal s number) rest fits =
    kind_back removal_codec 1 4 4 body_of (λ p. bodies.Removal p.0 p.1) (omega arith) refl (λ xs. refl) (s, number) rest fits

body_owns : (k : ℕ) (xs : List ℕ) (y : RecordBody) (rest : List ℕ) → IsBytes xs → body_of k xs ≡ Some (y, rest)
    → IsOfKind body_bytes body_spelled xs y rest k
unfolding request_at flush_at snap_at removal_at
body_owns k xs y rest all is =
    let P : ℕ → Type 0 = IsOfKind body_bytes body_spelled xs y rest in
    pick P k 1 _ _ (y, rest) is
    (λ m. kind_owns request_codec 1 body_bytes body_spelled (λ p. bodies.Request p.0 p.1.0 p.1.1) (λ x. refl) (λ x. refl) xs y rest all m)
    (λ is. pick P k 2 _ _ (y, rest) is
    (λ m. kind_owns flush_codec 2 body_bytes body_spelled (λ p. bodies.Flush p.0 p.1.0 p.1.1.0 p.1.1.1.0 p.1.1.1.1) (λ x. refl) (λ x. refl) xs y rest all m)
    (λ is. pick P k 3 _ _ (y, rest) is
    (λ m. kind_owns snap_codec 3 body_bytes body_spelled (λ p. bodies.Snap p.0 p.1.0 p.1.1) (λ x. refl) (λ x. refl) xs y rest all m)
    (λ is. pick P k 4 _ _ (y, rest) is
    (λ m. kind_owns removal_codec 4 body_bytes body_spelled (λ p. bodies.Removal p.0 p.1) (λ x. refl) (λ x. refl) xs y rest all m)
    (λ is. absurd cc))))

body_codec : Codec body_bytes body_spelled body_at
unfolding body_at
body_codec = tagged_codec 1 4 body_of body_bytes body_spelled (omega arith) body_back body_owns

only_version : (n : ℕ) → is_in 1 1 n ≡ true → n ≡ 1
only_version n is =
    let parts = and_parts (nat_le 1 n) (nat_le n 1) is in
    let low : 1 ≤ n = leb-true 1 n parts.0 in
    let high : n ≤ 1 = leb-true n 1 parts.1 in
    omega arith

pub record_codec : Codec record_bytes record_spelled record_at
unfolding record_at
record_codec =
    mapped_codec (both_codec (number_codec 1 1 1 (omega arith)) body_codec) record_bytes record_spelled record_of
    (λ r fits. ((1, r.body), fits, refl, refl))
    (λ p fits.
    let parts = and_parts (is_in 1 1 p.0) (body_spelled p.1) fits in
    (ap (λ n. number_bytes 1 n ++ body_bytes p.1) (sym (only_version p.0 parts.0)), parts.1))
