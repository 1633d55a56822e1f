-- What it is to cut a range of a file's bytes at the ends of units, which are pages or objects.
use Rattle.std.specs.Prelude.{◌≡◌, ℕ, zero, suc, ◌+◌, ◌-◌, ◌*◌, ◌%◌, ◌<◌, ◌≤◌, min, List, [], ◌∷◌, take, drop, All}
use Rattle.cs_geom.specs.declared.places.Piece.{Piece}
use Rattle.cs_geom.specs.Places.{offset_of, end_of, HasPlaces, piece_at}

-- the pieces cover the bytes from `low` up to `high` once, in order: the first begins at `low`, each other where the one before
-- it ends, and the last ends at `high`
abbrev pub CoversOnce : ℕ → ℕ → List Piece → Type 0
CoversOnce low high [] = low ≡ high
CoversOnce low high (p ∷ ps) = (offset_of p ≡ low) × CoversOnce (end_of p) high ps

-- a piece lies within one unit
abbrev pub LiesInOne : ℕ → Piece → Type 0
LiesInOne unit p = (k : ℕ) × (unit * k ≤ offset_of p) × (end_of p ≤ unit * (k + 1))

-- a piece ends where a unit does, unless it ends at `high`
abbrev pub EndsWithUnit : ℕ → ℕ → Piece → Type 0
EndsWithUnit unit high p = end_of p < high → (k : ℕ) × (end_of p ≡ unit * k)

-- The pieces are the range of `len` bytes at `off`, cut at the ends of units and nowhere else. They cover it once, in order;
-- each has the page and the object of its first byte and the byte's places there, has a byte, lies within one unit, and goes on to
-- the end of that unit or of the range.
pub record CutsRange (unit off len : ℕ) (pieces : List Piece) : Type 0 where
  pub covered : CoversOnce off (off + len) pieces
  pub placed : All HasPlaces pieces
  pub filled : All (λ p. 0 < p.len) pieces
  pub within : All (LiesInOne unit) pieces
  pub uncut : All (EndsWithUnit unit (off + len)) pieces

-- the bytes of a range up to the end of the first unit that it touches, or all of them
abbrev pub first_size : ℕ → ℕ → ℕ → ℕ
first_size unit off len = min (unit - off % unit) len

-- the first pieces of a range, at most `most`
abbrev pub first_pieces : ℕ → ℕ → ℕ → ℕ → List Piece
first_pieces zero unit off len = []
first_pieces (suc most) unit off zero = []
first_pieces (suc most) unit off (suc more) =
    let size = first_size unit off (suc more)
    in piece_at off size ∷ first_pieces most unit (off + size) (suc more - size)

-- all pieces of a range: there are no more than bytes
abbrev pub pieces_of : ℕ → ℕ → ℕ → List Piece
pieces_of unit off len = first_pieces len unit off len

-- a piece's part of the bytes of a range that begins at `off`
abbrev pub part_of : ℕ → List ℕ → Piece → List ℕ
part_of off bytes p = take p.len (drop (offset_of p - off) bytes)
