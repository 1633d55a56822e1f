-- The pieces of a range cut it, and no other pieces do.
use Rattle.std.proofs.Common.{◌≡◌, ℕ, zero, suc, ◌+◌, ◌-◌, ◌/◌, ◌%◌, ◌<◌, ◌≤◌, min, List, [], ◌∷◌, length, All, refl, sym, ◌∙◌, ap, subst, inl, inr, arith}
use Rattle.std.proofs.Math.Nat.{mul-div-le}
use Rattle.std.proofs.lemmas.Nat.{mod_below}
use Rattle.std.proofs.lemmas.Bool.{cases_lt}
use Rattle.std.proofs.lemmas.List.Elements.{All-nil, All-cons, All-head, All-tail}
use Rattle.cs_geom.specs.declared.places.Piece.{Piece}
use Rattle.cs_geom.specs.Places.{offset_of, end_of, HasPlaces, piece_at}
use Rattle.cs_geom.specs.Cuts.{CoversOnce, LiesInOne, EndsWithUnit, CutsRange, first_size, first_pieces, pieces_of}
use Rattle.cs_geom.proofs.Sizes.{first_size-pos, first_size-within, first_size-late, size_is, end-mod}

-- `CutsRange` of the range from `low` up to `high`
record Cuts (unit low high : ℕ) (pieces : List Piece) : Type 0 where
  covered : CoversOnce low high pieces
  placed : All HasPlaces pieces
  filled : All (λ p. 0 < p.len) pieces
  within : All (LiesInOne unit) pieces
  uncut : All (EndsWithUnit unit high) pieces

-- no pieces cut no bytes
none : (unit low high : ℕ) → low ≡ high → Cuts unit low high []
none unit low high ends = record {
  covered = ends;
  placed = All-nil HasPlaces;
  filled = All-nil (λ p. 0 < p.len);
  within = All-nil (LiesInOne unit);
  uncut = All-nil (EndsWithUnit unit high);
}

offset_of-at : (off size : ℕ) → offset_of (piece_at off size) ≡ off
offset_of-at off size = omega arith

end_of-at : (off size : ℕ) → end_of (piece_at off size) ≡ off + size
end_of-at off size = omega arith

HasPlaces-at : (off size : ℕ) → HasPlaces (piece_at off size)
HasPlaces-at off size = record { in_page = omega arith; in_object = omega arith; same_offset = omega arith }

-- the first piece and the pieces of the others
more : (unit off len high : ℕ) (ps : List Piece) → 0 < unit → 0 < len → off + len ≡ high → Cuts unit (off + first_size unit off len) high ps → Cuts unit off high (piece_at off (first_size unit off len) ∷ ps)
more unit off len high ps pos some ends rest =
    let size = first_size unit off len in
    let p = piece_at off size in
    let filled : 0 < p.len = first_size-pos unit off len pos some in
    let within : LiesInOne unit p = (off / unit, omega (arith, mul-div-le off unit), omega (arith, first_size-within unit off len pos)) in
    let uncut : EndsWithUnit unit high p = λ early. (off / unit + 1, omega (arith, first_size-late unit off len pos (omega arith)))
    in record {
      covered = (offset_of-at off size, rw end_of-at rest.covered);
      placed = All-cons HasPlaces p ps (HasPlaces-at off size) rest.placed;
      filled = All-cons (λ p. 0 < p.len) p ps filled rest.filled;
      within = All-cons (LiesInOne unit) p ps within rest.within;
      uncut = All-cons (EndsWithUnit unit high) p ps uncut rest.uncut;
    }

first_pieces-cut : (most unit off len high : ℕ) → 0 < unit → len ≤ most → off + len ≡ high → Cuts unit off high (first_pieces most unit off len)
first_pieces-cut zero unit off len high pos few ends = none unit off high (omega arith)
first_pieces-cut (suc most) unit off zero high pos few ends = none unit off high (omega arith)
first_pieces-cut (suc most) unit off (suc left) high pos few ends =
    more unit off (suc left) high _ pos (omega arith) ends
    (first_pieces-cut most unit (off + first_size unit off (suc left)) (suc left - first_size unit off (suc left)) high pos
    (omega (arith, first_size-pos unit off (suc left) pos (omega arith)))
    (omega arith))

-- `pieces_of` cuts the range
pub pieces_of-cuts : (unit off len : ℕ) → 0 < unit → CutsRange unit off len (pieces_of unit off len)
pieces_of-cuts unit off len pos =
    let all = first_pieces-cut len unit off len (off + len) pos (omega arith) refl
    in record { covered = all.covered; placed = all.placed; filled = all.filled; within = all.within; uncut = all.uncut }

-- the pieces do not run backward
CoversOnce-le : (low high : ℕ) (ps : List Piece) → CoversOnce low high ps → low ≤ high
CoversOnce-le low high [] c = omega arith
CoversOnce-le low high (p ∷ ps) c = omega (arith, CoversOnce-le (end_of p) high ps c.1)

-- a piece is that of its offset and its size
piece_is : (p : Piece) (off : ℕ) → HasPlaces p → offset_of p ≡ off → p ≡ piece_at off p.len
piece_is p off places at =
    let page : p.page ≡ off / 4096 = omega arith in
    let page_off : p.page_off ≡ off % 4096 = omega arith in
    let index : p.index ≡ off / 65536 = omega arith in
    let obj_off : p.obj_off ≡ off % 65536 = omega arith
    in ap (λ n. record p { page = n }) page ∙ ap (λ n. record p { page = off / 4096; page_off = n }) page_off
    ∙ ap (λ n. record p { page = off / 4096; page_off = off % 4096; index = n }) index
    ∙ ap (λ n. record p { page = off / 4096; page_off = off % 4096; index = off / 65536; obj_off = n }) obj_off

-- a range of no bytes has no pieces
only_none : (unit low high : ℕ) (ps : List Piece) → low ≡ high → Cuts unit low high ps → ps ≡ []
only_none unit low high [] ends cuts = refl
only_none unit low high (p ∷ ps) ends cuts =
    absurd (omega (arith, cuts.covered.0, CoversOnce-le (end_of p) high ps cuts.covered.1, All-head (λ p. 0 < p.len) p ps cuts.filled))

only_first_pieces : (most unit low len high : ℕ) (ps : List Piece) → len ≤ most → low + len ≡ high → Cuts unit low high ps → ps ≡ first_pieces most unit low len
only_first_pieces zero unit low len high ps few ends cuts = only_none unit low high ps (omega arith) cuts
only_first_pieces (suc most) unit low zero high ps few ends cuts = only_none unit low high ps (omega arith) cuts
only_first_pieces (suc most) unit low (suc left) high [] few ends cuts = absurd (omega (arith, cuts.covered))
only_first_pieces (suc most) unit low (suc left) high (p ∷ ps) few ends cuts =
    let begins : offset_of p ≡ low = cuts.covered.0 in
    let before : end_of p ≤ high = CoversOnce-le (end_of p) high ps cuts.covered.1 in
    let some : 0 < p.len = All-head (λ p. 0 < p.len) p ps cuts.filled in
    let inside : LiesInOne unit p = All-head (LiesInOne unit) p ps cuts.within in
    let late : EndsWithUnit unit high p = All-head (EndsWithUnit unit high) p ps cuts.uncut in
    let size : p.len ≡ first_size unit low (suc left) =
    size_is unit low (suc left) p.len inside.0 some (omega arith) (omega (arith, inside.1)) (omega (arith, inside.2))
    (λ less. let e = late (omega arith) in (e.0, omega (arith, e.1))) in
    let first : p ≡ piece_at low (first_size unit low (suc left)) =
    piece_is p low (All-head HasPlaces p ps cuts.placed) begins ∙ ap (piece_at low) size in
    let behind : end_of p ≡ low + first_size unit low (suc left) = omega arith in
    let tail : Cuts unit (low + first_size unit low (suc left)) high ps = record {
      covered = subst (λ n. CoversOnce n high ps) behind cuts.covered.1;
      placed = All-tail HasPlaces p ps cuts.placed;
      filled = All-tail (λ p. 0 < p.len) p ps cuts.filled;
      within = All-tail (LiesInOne unit) p ps cuts.within;
      uncut = All-tail (EndsWithUnit unit high) p ps cuts.uncut;
    } in
    let others : ps ≡ first_pieces most unit (low + first_size unit low (suc left)) (suc left - first_size unit low (suc left)) =
    only_first_pieces most unit (low + first_size unit low (suc left)) (suc left - first_size unit low (suc left)) high ps (omega arith) (omega arith) tail
    in cc

-- nothing but `pieces_of` cuts the range
pub pieces_of-only : (unit off len : ℕ) (ps : List Piece) → CutsRange unit off len ps → ps ≡ pieces_of unit off len
pieces_of-only unit off len ps cuts =
    only_first_pieces len unit off len (off + len) ps (omega arith) refl
    (record { covered = cuts.covered; placed = cuts.placed; filled = cuts.filled; within = cuts.within; uncut = cuts.uncut })

-- the first piece of a range, and the pieces of the others
pub pieces_of-step : (unit off len : ℕ) → 0 < unit → 0 < len → pieces_of unit off len ≡ piece_at off (first_size unit off len) ∷ pieces_of unit (off + first_size unit off len) (len - first_size unit off len)
pieces_of-step unit off zero pos some = absurd (omega arith)
pieces_of-step unit off (suc left) pos some =
    let size = first_size unit off (suc left) in
    let low = off + size in
    let len = suc left - size in
    let enough : len ≤ left = omega (arith, first_size-pos unit off (suc left) pos some)
    in ap (λ ps. piece_at off size ∷ ps) (only_first_pieces len unit low len (low + len) (first_pieces left unit low len) (omega arith) refl (first_pieces-cut left unit low len (low + len) pos enough refl))

-- a range within one unit is one piece
pub pieces_of-one : (unit off len : ℕ) → 0 < len → off % unit + len ≤ unit → pieces_of unit off len ≡ piece_at off len ∷ []
pieces_of-one unit off len some inside =
    let pos : 0 < unit = omega arith in
    let whole : first_size unit off len ≡ len = omega arith in
    let none_left : len - len ≡ 0 = omega arith
    in pieces_of-step unit off len pos some ∙ ap (λ n. piece_at off n ∷ pieces_of unit (off + n) (len - n)) whole ∙ ap (λ n. piece_at off len ∷ pieces_of unit (off + len) n) none_left

-- a range on both sides of the end of a unit, and no longer than one, is two pieces
pub pieces_of-two : (unit off len : ℕ) → 0 < unit → len ≤ unit → unit < off % unit + len → let size = unit - off % unit in pieces_of unit off len ≡ piece_at off size ∷ piece_at (off + size) (len - size) ∷ []
pieces_of-two unit off len pos few beyond =
    let part : off % unit < unit = mod_below off unit pos in
    let size = unit - off % unit in
    let front : first_size unit off len ≡ size = omega arith in
    let begins : (off + size) % unit ≡ 0 = end-mod unit off pos
    in pieces_of-step unit off len pos (omega arith) ∙ ap (λ n. piece_at off n ∷ pieces_of unit (off + n) (len - n)) front
    ∙ ap (λ ps. piece_at off size ∷ ps) (pieces_of-one unit (off + size) (len - size) (omega arith) (omega arith))

-- a range no longer than a unit has at most two pieces
pub length-pieces_of : (unit off len : ℕ) → 0 < unit → len ≤ unit → length (pieces_of unit off len) ≤ 2
length-pieces_of unit off zero pos few = omega arith
length-pieces_of unit off (suc left) pos few =
    elim (cases_lt unit (off % unit + suc left)) [
      | inl beyond ↦ omega (arith, ap length (pieces_of-two unit off (suc left) pos few beyond))
      | inr inside ↦ omega (arith, ap length (pieces_of-one unit off (suc left) (omega arith) inside))
    ]

-- what a step of the iterator leaves
pub pieces_of-next : (unit off end size : ℕ) (p : Piece) → 0 < unit → off < end → size ≡ min (unit - off % unit) (end - off) → p ≡ piece_at off size → pieces_of unit off (end - off) ≡ p ∷ pieces_of unit (off + size) (end - (off + size))
pieces_of-next unit off end size p pos some is at =
    let rest : (end - off) - size ≡ end - (off + size) = omega arith
    in pieces_of-step unit off (end - off) pos (omega arith) ∙ ap (λ n. piece_at off n ∷ pieces_of unit (off + n) (end - off - n)) (sym is)
    ∙ ap (λ n. piece_at off size ∷ pieces_of unit (off + size) n) rest ∙ ap (λ q. q ∷ pieces_of unit (off + size) (end - (off + size))) (sym at)

-- what the answers need
pub ruleset cuts = (pieces_of-cuts, length-pieces_of)

pub ruleset next_pieces = (pieces_of-next)
