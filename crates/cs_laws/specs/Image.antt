-- The image of a list of writes: what a file holds that was written so.
use Rattle.std.specs.Prelude.{ℕ, ◌+◌, ◌-◌, ◌&&◌, max, List, [], ◌∷◌, length, filter, slice_index, nat_lt, nat_le, if◌then◌else◌}

-- the byte at a place, where these bytes lie from an offset on over another byte there
abbrev pub byte_over : ℕ → List ℕ → ℕ → ℕ → ℕ
byte_over off bytes i below = if nat_le off i && nat_lt i (off + length bytes) then slice_index bytes (i - off) else below

-- bytes that were written from an offset on, at a time, under the tag of the reference that they were written on
pub record Write : Type 0 where
  pub off : ℕ
  pub bytes : List ℕ
  pub time : ℕ
  pub tag : ℕ

-- The writes stand the newest first.

-- the byte at a place; what was never written is zero
abbrev pub image : List Write → ℕ → ℕ
image [] i = 0
image (w ∷ ws) i = byte_over w.off w.bytes i (image ws i)

-- the greatest end of a write
abbrev pub size : List Write → ℕ
size [] = 0
size (w ∷ ws) = max (w.off + length w.bytes) (size ws)

-- the time of the last write
abbrev pub mtime : List Write → ℕ
mtime [] = 0
mtime (w ∷ ws) = w.time

-- the writes with a tag of at most s
abbrev pub upto : ℕ → List Write → List Write
upto s ws = filter (λ w. nat_le w.tag s) ws

-- those with a tag below s
abbrev pub older : ℕ → List Write → List Write
older s ws = filter (λ w. nat_lt w.tag s) ws
