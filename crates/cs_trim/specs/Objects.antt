-- An object is the list of its writes, the newest first. What was never written is zero.
use Rattle.std.specs.Prelude.{ℕ, ◌==◌, ◌&&◌, Bool, true, List, [], ◌∷◌, nat_lt, if◌then◌else◌}
use Rattle.cs_laws.specs.declared.objects.At.{At}
use Rattle.cs_laws.specs.declared.objects.At.TheVariants as at
use Rattle.cs_laws.specs.Image.{byte_over}
use Rattle.cs_trim.specs.Steps.{Step, taken, removed, wrote, trimmed, drawn}

-- bytes that were written from an offset on; its seq is the last number that was drawn, 0 if none
pub record Write : Type 0 where
  pub seq : ℕ
  pub off : ℕ
  pub bytes : List ℕ

-- the writes to an object
abbrev pub writes : ℕ → List Step → List Write
writes b [] = []
writes b (wrote c off bytes ∷ h) = if c == b then record { seq = drawn h; off = off; bytes = bytes } ∷ writes b h else writes b h
writes b (taken ∷ h) = writes b h
writes b (removed s ∷ h) = writes b h
writes b (trimmed ∷ h) = writes b h

abbrev pub all_below : ℕ → List Write → Bool
all_below s [] = true
all_below s (w ∷ ws) = nat_lt w.seq s && all_below s ws

-- those before the first one whose seq is at least s
abbrev pub before : ℕ → List Write → List Write
before s [] = []
before s (w ∷ ws) = if all_below s (w ∷ ws) then w ∷ ws else before s ws

-- the writes that make a state
abbrev pub writes_at : At → List Write → List Write
writes_at at.Head ws = ws
writes_at (at.Snap s) ws = before s ws

-- the byte at a place after these writes
abbrev pub byte_of : List Write → ℕ → ℕ
byte_of [] i = 0
byte_of (w ∷ ws) i = byte_over w.off w.bytes i (byte_of ws i)

-- the byte of an object at a place, at a snapshot or at present
abbrev pub object_byte : At → ℕ → List Step → ℕ → ℕ
object_byte a b h i = byte_of (writes_at a (writes b h)) i
