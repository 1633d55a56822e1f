-- States of a file: at a snapshot, or the present one, which is called the head.
use Rattle.std.specs.Prelude.{ℕ, Bool, true, List, nat_lt}
use Rattle.cs_laws.specs.declared.objects.At.{At}
use Rattle.cs_laws.specs.declared.objects.At.TheVariants as at
use Rattle.cs_laws.specs.Image.{Write, older}

-- a tag or a number that a flush follows is of the time before the state
abbrev pub is_before : At → ℕ → Bool
is_before at.Head seq = true
is_before (at.Snap s) seq = nat_lt seq s

-- the writes that the state has
abbrev pub writes_at : At → List Write → List Write
writes_at at.Head ws = ws
writes_at (at.Snap s) ws = older s ws
