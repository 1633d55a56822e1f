-- The bytes of a file from a place on, joined of the bytes of its pieces' objects.
use Rattle.std.proofs.Common.{◌≡◌, ◌∙◌, refl, sym, ap, ℕ, zero, suc, ◌+◌, ◌/◌, ◌%◌, ◌<◌, ◌≤◌, List, [], ◌∷◌, ◌++◌, length, take, drop, All, arith, slice_index, EachIndex}
use Rattle.std.proofs.lemmas.List.Elements.{All-head, All-tail}
use Rattle.std.proofs.Math.Seq.{take-append_seam}
use Rattle.cs_geom.specs.declared.places.Piece.{Piece}
use Rattle.cs_geom.specs.declared.places.TheConstants.{OBJECT_SIZE}
use Rattle.cs_geom.specs.Places.{offset_of, end_of, HasPlaces}
use Rattle.cs_geom.specs.Cuts.{CoversOnce, LiesInOne, CutsRange}
use Rattle.cs_laws.specs.declared.objects.At.{At}
use Rattle.cs_laws.specs.declared.objects.ObjOp.{ObjOp}
use Rattle.cs_laws.specs.Answers.{bytes_from}
use Rattle.cs_laws.specs.Objects.{object_byte}
use Rattle.cs_objstore.specs.Files.{file_byte}

pub length_bytes : (b : ℕ → ℕ) (off n : ℕ) → length (bytes_from b off n) ≡ n
length_bytes b off zero = refl
length_bytes b off (suc n) = ap suc (length_bytes b (off + 1) n)

-- a list with the bytes of each place is them all
bytes_of_places : (b : ℕ → ℕ) (off : ℕ) (out : List ℕ) → EachIndex out (λ i. slice_index out i ≡ b (off + i)) → out ≡ bytes_from b off (length out)
bytes_of_places b off [] each = refl
bytes_of_places b off (x ∷ out) each =
    let here : off + 0 ≡ off = omega arith in
    let first : x ≡ b off = rw here at (each 0 (omega arith)) in
    let rest = bytes_of_places b (off + 1) out (λ i below.
    let there : off + suc i ≡ (off + 1) + i = omega arith in
    rw there at (each (suc i) (omega (arith, below)))) in
    rw (← first) (ap (λ bs. x ∷ bs) rest)

-- what was written over all items of a list is the list
written_over : (n : ℕ) (out items : List ℕ) → n ≡ length out → take n (out ++ drop (length out) items) ≡ out
written_over n out items long = rw long (take-append_seam out (drop (length out) items))

-- a list whose items were all written over has the bytes of each place
pub bytes_written : (b : ℕ → ℕ) (off count n : ℕ) (out items : List ℕ) → n ≡ length out → length out ≡ count
    → EachIndex out (λ i. slice_index out i ≡ b (off + i)) → take n (out ++ drop (length out) items) ≡ bytes_from b off count
bytes_written b off count n out items long few each =
    let whole = bytes_of_places b off out each in
    written_over n out items long ∙ (rw few at whole)

-- of the first places, and of those behind them
bytes_append : (b : ℕ → ℕ) (off m n : ℕ) → bytes_from b off (m + n) ≡ bytes_from b off m ++ bytes_from b (off + m) n
bytes_append b off zero n =
    let same : off + 0 ≡ off = omega arith in
    let none : 0 + n ≡ n = omega arith in
    rw (same, none) refl
bytes_append b off (suc m) n =
    let there : off + suc m ≡ (off + 1) + m = omega arith in
    let more : suc m + n ≡ suc (m + n) = omega arith in
    rw (there, more) (ap (λ bs. b off ∷ bs) (bytes_append b (off + 1) m n))

-- the same bytes at other places
bytes_moved : (b c : ℕ → ℕ) (from to n : ℕ) → ((i : ℕ) → i < n → b (from + i) ≡ c (to + i)) → bytes_from b from n ≡ bytes_from c to n
bytes_moved b c from to zero same = refl
bytes_moved b c from to (suc n) same =
    let left : from + 0 ≡ from = omega arith in
    let right : to + 0 ≡ to = omega arith in
    let first : b from ≡ c to = rw (left, right) at (same 0 (omega arith)) in
    let rest = bytes_moved b c (from + 1) (to + 1) n (λ i below.
    let above : from + suc i ≡ (from + 1) + i = omega arith in
    let under : to + suc i ≡ (to + 1) + i = omega arith in
    rw (above, under) at (same (suc i) (omega (arith, below)))) in
    rw first (ap (λ bs. c to ∷ bs) rest)

-- a byte of a piece's object is that of the file at the piece's place
piece_byte : (a : At) (f : ℕ) (ops : List ObjOp) (p : Piece) (i : ℕ) → HasPlaces p → p.obj_off + p.len ≤ 65536 → i < p.len
    → file_byte a f ops (offset_of p + i) ≡ object_byte a (record { ino = f; index = p.index }) ops (p.obj_off + i)
piece_byte a f ops p i placed within below =
    let index : (offset_of p + i) / 65536 ≡ p.index = omega (arith, placed.same_offset, within, below) in
    let place : (offset_of p + i) % 65536 ≡ p.obj_off + i = omega (arith, placed.same_offset, within, below) in
    rw (index, place) refl

-- a piece in one object ends where the object does, or before
in_object : (p : Piece) → HasPlaces p → LiesInOne OBJECT_SIZE p → p.obj_off + p.len ≤ 65536
in_object p placed within = omega (arith, placed.in_object, placed.same_offset, within.1, within.2)

-- the pieces that are left when this many bytes of the range were read
pub record AreLeft (off count got : ℕ) (ps : List Piece) : Type 0 where
  pub covered : CoversOnce (off + got) (off + count) ps
  pub placed : All HasPlaces ps
  pub within : All (LiesInOne OBJECT_SIZE) ps

pub all_left : (off count : ℕ) (ps : List Piece) → CutsRange OBJECT_SIZE off count ps → AreLeft off count 0 ps
all_left off count ps cuts =
    let same : off + 0 ≡ off = omega arith in
    record {
      covered = rw same cuts.covered;
      placed = cuts.placed;
      within = cuts.within;
    }

-- a piece lies in its object
pub left_fits : (off count got : ℕ) (p : Piece) (ps : List Piece) → AreLeft off count got (p ∷ ps) → p.obj_off + p.len ≤ 65536
left_fits off count got p ps left =
    in_object p (All-head HasPlaces p ps left.placed) (All-head (LiesInOne OBJECT_SIZE) p ps left.within)

-- one piece less
pub left_next : (off count got : ℕ) (p : Piece) (ps : List Piece) → AreLeft off count got (p ∷ ps) → AreLeft off count (got + p.len) ps
left_next off count got p ps left =
    let next : end_of p ≡ off + (got + p.len) = omega (arith, left.covered.0) in
    record {
      covered = rw next at left.covered.1;
      placed = All-tail HasPlaces p ps left.placed;
      within = All-tail (LiesInOne OBJECT_SIZE) p ps left.within;
    }

-- where no piece is left, all was read
pub none_left : (off count got : ℕ) → AreLeft off count got [] → got ≡ count
none_left off count got left = omega (arith, left.covered)

-- the bytes of the first piece that is left come behind those that were read
pub one_more_read : (a : At) (f off count got : ℕ) (ops : List ObjOp) (p : Piece) (ps : List Piece) (bytes part : List ℕ) → AreLeft off count got (p ∷ ps)
    → bytes ≡ bytes_from (file_byte a f ops) off got → part ≡ bytes_from (object_byte a (record { ino = f; index = p.index }) ops) p.obj_off p.len
    → bytes ++ part ≡ bytes_from (file_byte a f ops) off (got + p.len)
one_more_read a f off count got ops p ps bytes part left before now =
    let start : offset_of p ≡ off + got = omega (arith, left.covered.0) in
    let placed = All-head HasPlaces p ps left.placed in
    let fits = left_fits off count got p ps left in
    let moved : bytes_from (file_byte a f ops) (offset_of p) p.len ≡ bytes_from (object_byte a (record { ino = f; index = p.index }) ops) p.obj_off p.len =
    bytes_moved (file_byte a f ops) (object_byte a (record { ino = f; index = p.index }) ops) (offset_of p) p.obj_off p.len
    (λ i below. piece_byte a f ops p i placed fits below) in
    let here : part ≡ bytes_from (file_byte a f ops) (off + got) p.len = rw start at (now ∙ sym moved) in
    rw (before, here) (sym (bytes_append (file_byte a f ops) off got p.len))

-- more bytes behind them leave those in front
pub front_read : (b : ℕ → ℕ) (off n : ℕ) (base rest new : List ℕ) → base ≡ bytes_from b off n → new ≡ base ++ rest → take n new ≡ bytes_from b off n
front_read b off n base rest new is grown =
    let long : n ≡ length base = sym (ap length is ∙ length_bytes b off n) in
    rw (grown, long) (take-append_seam base rest) ∙ is
