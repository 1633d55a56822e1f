-- The places of a byte of a file: its page and its object, and where it lies in each.
use Rattle.std.specs.Prelude.{◌≡◌, ℕ, ◌+◌, ◌*◌, ◌/◌, ◌%◌, ◌<◌}
use Rattle.cs_geom.specs.declared.places.Piece.{Piece}
use Rattle.cs_geom.specs.declared.places.TheConstants.{PAGE_SIZE, OBJECT_SIZE}

-- the offset of a piece's first byte, by its page
abbrev pub offset_of : Piece → ℕ
offset_of p = PAGE_SIZE * p.page + p.page_off

-- the offset behind a piece's last byte
abbrev pub end_of : Piece → ℕ
end_of p = offset_of p + p.len

-- a piece's page and its object are those of one offset, and so are its places in them
pub record HasPlaces (p : Piece) : Type 0 where
  pub in_page : p.page_off < PAGE_SIZE
  pub in_object : p.obj_off < OBJECT_SIZE
  pub same_offset : OBJECT_SIZE * p.index + p.obj_off ≡ offset_of p

-- the piece of `len` bytes at the offset `off`
abbrev pub piece_at : ℕ → ℕ → Piece
piece_at off len = record { page = off / PAGE_SIZE; page_off = off % PAGE_SIZE; index = off / OBJECT_SIZE; obj_off = off % OBJECT_SIZE; len = len }
