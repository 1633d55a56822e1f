-- Live references and the bits that they use. A list of them has the oldest first.
use Rattle.std.specs.Prelude.{ℕ, ◌==◌, ◌&&◌, Bool, true, false, List, [], ◌∷◌, Option, Some, None, if◌then◌else◌}
use Rattle.cs_bits.specs.declared.Caps.{Caps}
use Rattle.cs_bits.specs.Bits.{no_caps, union, covers, file_write}
use Rattle.cs_parts.specs.declared.references.Live.{Live}

abbrev pub is_ref : ℕ → ℕ → Live → Bool
is_ref caller number r = (r.caller == caller) && (r.number == number)

abbrev pub has_ref : ℕ → ℕ → List Live → Bool
has_ref caller number [] = false
has_ref caller number (r ∷ rs) = if is_ref caller number r then true else has_ref caller number rs

-- the reference of this name, where it lives
abbrev pub ref_named : ℕ → ℕ → List Live → Option Live
ref_named caller number [] = None
ref_named caller number (r ∷ rs) = if is_ref caller number r then Some r else ref_named caller number rs

-- the list without the reference of this name
abbrev pub without_ref : ℕ → ℕ → List Live → List Live
without_ref caller number [] = []
without_ref caller number (r ∷ rs) = if is_ref caller number r then rs else r ∷ without_ref caller number rs

-- a live reference to the file with the right to write
abbrev pub is_writer_of : ℕ → Live → Bool
is_writer_of f r = (r.file == f) && covers r.bits file_write

-- the bits of the live references to a file
abbrev pub used_in : ℕ → List Live → Caps
used_in f [] = no_caps
used_in f (r ∷ rs) = if r.file == f then union r.bits (used_in f rs) else used_in f rs
